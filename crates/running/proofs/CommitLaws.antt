-- Laws of committing: the units chosen, out of an answer's rows, a turn of the merge, and the merge. Assumes nothing.
use Prim.Native.Nat.{ℕ, zero, suc, ◌+◌, ◌*◌, ◌≤◌, ◌<◌}
use mathlib.Core.Path.{◌≡◌, refl, sym, ◌∙◌, ap}
use mathlib.Core.Bool.{Bool, true, false, ◌||◌}
use mathlib.Core.List.{List, [], ◌∷◌, ◌++◌, append-nil, map, map-append}
use native.Mathlib.Numerals.{add-one}
use native.Mathlib.Omega.{arith}
use lib.Dec.{ltb}
use lib.ListN.{length, get_or, take, drop, set, length-set, length-map, length-append}
use lib.Seq.{length-take-le, take-suc-set, append_snoc}
use borrow.Author.Tests.{ltb-true, ltb-false}
use Rattle.base.specs.Rising.{RisingFrom, next}
use Rattle.base.proofs.Lists.{drop-end}
use Rattle.base.proofs.Tests.{or_fst, or_snd}
use Rattle.cells.proofs.RowViews.{answer-next, answer-length}
use Rattle.cells.specs.promises.Views.{answer_width, answer_at, answer_rows}
use Rattle.outcome.specs.Day.{RunningUnit, most_running, put_all}
use Rattle.outcome.specs.Study.{chosen}
use Rattle.outcome.proofs.DayLaws.{unit, order-rising, put-all-length, merge-before, merge-at, merge-behind, merge-alone}
use Rattle.running.specs.promises.Committing.{unit_numbers, Fits, any_left, Turns}
use Rattle.running.specs.promises.Forming.{units_formed}
use Rattle.running.specs.View.{unit_of, first_units, units_of}
use Rattle.running.specs.declared.committing.Turn.{Turn}
use Rattle.running.specs.declared.units.Running.{Running}
use Rattle.running.specs.declared.units.Units.{Units}
use Rattle.running.proofs.FormingLaws.{ordered}
use Rattle.running.proofs.ViewLaws.{unused, counted, first_next, first-map}

-- one more unit in its place
stored :
    (out : List Running) (k : ℕ) (r : Running) → k < length out →
    map unit_of (take (k + 1) (set out k r)) ≡ map unit_of (take k out) ++ (unit_of r ∷ [])
stored out k r h = rw (add-one, take-suc-set out k r h) (map-append unit_of (take k out) (r ∷ []))

-- of n rows the first i are laid down as what they have running
pub record Choosing (n : ℕ) (cells : List ℕ) (out : List Running) (i : ℕ) : Type 0 where
  pub upto : i ≤ n
  pub most : n ≤ most_running
  pub room : n * answer_width ≤ length cells
  pub places : length out ≡ most_running
  pub laid : map chosen (answer_rows n cells) ≡ map unit_of (take i out) ++ map chosen (drop i (answer_rows n cells))

module _ (n : ℕ) (cells : List ℕ) (out : List Running) where
  pub choosing-none : length out ≡ most_running → n ≤ most_running → n * answer_width ≤ length cells → Choosing n cells out 0
  choosing-none e h k = record { upto = omega arith; most = h; room = k; places = e; laid = refl }

  module _ (i : ℕ) (c : Choosing n cells out i) where
    pub choosing-next :
        (r : Running) → i < n → unit_of r ≡ chosen (answer_at cells i) → Choosing n cells (set out i r) (i + 1)
    choosing-next r h e =
        record {
          upto = omega arith;
          most = c.most;
          room = c.room;
          places = length-set out i r ∙ c.places;
          laid =
              c.laid
              ∙ rw (answer-next n cells i h, ← e, stored out i r (omega (arith, c.most, c.places)))
              (sym (append_snoc (map unit_of (take i out)) (unit_of r) _));
        }

    pub choosing-over : n ≤ i → first_units n out ≡ map chosen (answer_rows n cells)
    choosing-over h =
        let all : i ≡ n = omega (arith, c.upto) in
        first-map n out (omega (arith, c.most, c.places))
        ∙ sym (c.laid ∙ rw (drop-end i (answer_rows n cells) (omega (arith, answer-length n cells)), all) (append-nil (map unit_of (take n out))))

-- units, one after the other
unit-here :
    (us : Units) (i : ℕ) → i < us.count → i < length us.running →
    drop i (units_of us) ≡ unit_of (get_or us.running i unused) ∷ drop (i + 1) (units_of us)
unfolding units_of
unit-here us i h k = first_next unused us.count us.running i h k

rising-drop :
    {b : ℕ} (j : ℕ) (cs : List RunningUnit) → RisingFrom b (map unit cs) → (a : ℕ) × RisingFrom a (map unit (drop j cs))
rising-drop {b} zero cs o = (b, o)
rising-drop {b} (suc j) [] o = (b, o)
rising-drop (suc j) (c ∷ cs) (next h o) = rising-drop j cs o

rising-behind : {a : ℕ} (c : RunningUnit) (cs : List RunningUnit) → RisingFrom a (map unit (c ∷ cs)) → RisingFrom c.unit (map unit cs)
rising-behind c cs (next h o) = o

-- A turn, by what stands next among the choices and among the running units.
module _ (cs rs : List RunningUnit) (i j : ℕ) where
  -- no chosen unit is left
  turn-unit-alone :
      (r : Running) → i < length rs → length cs ≤ j → j ≤ length cs → drop i rs ≡ unit_of r ∷ drop (i + 1) rs →
      Turns cs rs i j (record { next = r; running = 1; chosen = 0 })
  unfolding put_all
  turn-unit-alone r h k l f =
      let still : j + 0 ≡ j = omega arith in
      record {
        running-upto = omega arith;
        chosen-upto = omega arith;
        goes_on = omega arith;
        merges = rw (still, drop-end j cs k, f);
      }

  module _ (c : Running) (o : RisingFrom 0 (map unit cs)) (h : j < length cs) (e : drop j cs ≡ unit_of c ∷ drop (j + 1) cs) where
    behind : RisingFrom c.unit (map unit (drop (j + 1) cs))
    behind =
        let from = rising-drop j cs o in
        rising-behind (unit_of c) (drop (j + 1) cs) (rw e at from.1)

    -- no running unit is left
    turn-choice-alone :
        length rs ≤ i → i ≤ length rs → Turns cs rs i j (record { next = c; running = 0; chosen = 1 })
    turn-choice-alone k l =
        let still : i + 0 ≡ i = omega arith in
        record {
          running-upto = omega arith;
          chosen-upto = omega arith;
          goes_on = omega arith;
          merges = rw (still, drop-end i rs k, e) (merge-alone (unit_of c) (drop (j + 1) cs) behind);
        }

    module _ (r : Running) (k : i < length rs) (f : drop i rs ≡ unit_of r ∷ drop (i + 1) rs) where
      -- the running unit comes first
      turn-unit : r.unit < c.unit → Turns cs rs i j (record { next = r; running = 1; chosen = 0 })
      turn-unit l =
          let still : j + 0 ≡ j = omega arith in
          record {
            running-upto = omega arith;
            chosen-upto = omega arith;
            goes_on = omega arith;
            merges = rw (still, e, f) (merge-behind (unit_of c) (unit_of r) (drop (j + 1) cs) (drop (i + 1) rs) behind l);
          }

      -- the chosen unit is the running one
      turn-both : r.unit ≡ c.unit → Turns cs rs i j (record { next = c; running = 1; chosen = 1 })
      turn-both l =
          record {
            running-upto = omega arith;
            chosen-upto = omega arith;
            goes_on = omega arith;
            merges = rw (e, f) (merge-at (unit_of c) (unit_of r) (drop (j + 1) cs) (drop (i + 1) rs) behind (sym l));
          }

      -- the chosen unit comes first
      turn-choice : c.unit < r.unit → Turns cs rs i j (record { next = c; running = 0; chosen = 1 })
      turn-choice l =
          let still : i + 0 ≡ i = omega arith in
          record {
            running-upto = omega arith;
            chosen-upto = omega arith;
            goes_on = omega arith;
            merges =
                rw (still, e, f) (merge-before (unit_of c) (unit_of r) (drop (j + 1) cs) (drop (i + 1) rs) behind l);
          }

-- The turns of running and chosen units.
module _ (us ch : Units) (i j : ℕ) (f : Fits (units_of ch) (units_of us)) where
  abbrev Turned : Turn → Type 0
  Turned t = Turns (units_of ch) (units_of us) i j t

  module _ (h : i < us.count) (places : us.count ≤ length us.running) where
    pub unit-alone : j ≡ ch.count → Turned (record { next = get_or us.running i unused; running = 1; chosen = 0 })
    unit-alone k =
        turn-unit-alone (units_of ch) (units_of us) i j (get_or us.running i unused)
        (omega (arith, counted us))
        (omega (arith, counted ch))
        (omega (arith, counted ch))
        (unit-here us i h (omega arith))

  module _ (k : j < ch.count) (rooms : ch.count ≤ length ch.running) where
    pub choice-alone : i ≡ us.count → Turned (record { next = get_or ch.running j unused; running = 0; chosen = 1 })
    choice-alone h =
        turn-choice-alone (units_of ch) (units_of us) i j (get_or ch.running j unused)
        f.rising
        (omega (arith, counted ch))
        (unit-here ch j k (omega arith))
        (omega (arith, counted us))
        (omega (arith, counted us))

    module _ (h : i < us.count) (places : us.count ≤ length us.running) where
      both-there :
          (t : Turn) → (RisingFrom 0 (unit_numbers (units_of ch)) → j < length (units_of ch) →
          drop j (units_of ch) ≡ unit_of (get_or ch.running j unused) ∷ drop (j + 1) (units_of ch) → i < length (units_of us) →
          drop i (units_of us) ≡ unit_of (get_or us.running i unused) ∷ drop (i + 1) (units_of us) →
          Turned t) → Turned t
      both-there t turn =
          turn
          f.rising
          (omega (arith, counted ch))
          (unit-here ch j k (omega arith))
          (omega (arith, counted us))
          (unit-here us i h (omega arith))

      pub unit-first :
          (get_or us.running i unused).unit < (get_or ch.running j unused).unit →
          Turned (record { next = get_or us.running i unused; running = 1; chosen = 0 })
      unit-first l = both-there _ (λ o p q r s. turn-unit (units_of ch) (units_of us) i j _ o p q _ r s l)

      pub both :
          (get_or us.running i unused).unit ≡ (get_or ch.running j unused).unit →
          Turned (record { next = get_or ch.running j unused; running = 1; chosen = 1 })
      both l = both-there _ (λ o p q r s. turn-both (units_of ch) (units_of us) i j _ o p q _ r s l)

      pub choice-first :
          (get_or ch.running j unused).unit < (get_or us.running i unused).unit →
          Turned (record { next = get_or ch.running j unused; running = 0; chosen = 1 })
      choice-first l = both-there _ (λ o p q r s. turn-choice (units_of ch) (units_of us) i j _ o p q _ r s l)

-- The merge: the first k places hold what i running and j chosen units give, and the rest is still to be merged.
pub record Merging (cs rs : List RunningUnit) (out : List Running) (k i j : ℕ) : Type 0 where
  pub running-upto : i ≤ length rs
  pub chosen-upto : j ≤ length cs
  pub places : length out ≡ most_running
  pub few : length (put_all cs rs) ≤ most_running
  pub inside : k ≤ most_running
  pub merged : put_all cs rs ≡ map unit_of (take k out) ++ put_all (drop j cs) (drop i rs)

pub merging-none :
    (cs rs : List RunningUnit) (out : List Running) → length out ≡ most_running → length (put_all cs rs) ≤ most_running →
    Merging cs rs out 0 0 0
merging-none cs rs out e h =
    record {
      running-upto = omega arith;
      chosen-upto = omega arith;
      places = e;
      few = h;
      inside = omega arith;
      merged = refl;
    }

module _ (cs rs : List RunningUnit) (out : List Running) (k i j : ℕ) (m : Merging cs rs out k i j) where
  front : length (map unit_of (take k out)) ≡ k
  front = length-map (take k out) unit_of ∙ length-take-le k out (omega (arith, m.inside, m.places))

  module _ (t : Turn) (g : Turns cs rs i j t) where
    -- a turn finds a place
    pub merging-room : k < most_running
    merging-room =
        let whole = ap length (rw g.merges at m.merged) in
        omega (arith, whole, front, m.few, length-append (map unit_of (take k out)) (unit_of t.next ∷ put_all (drop (j + t.chosen) cs) (drop (i + t.running) rs)))

    pub merging-next : Merging cs rs (set out k t.next) (k + 1) (i + t.running) (j + t.chosen)
    merging-next =
        record {
          running-upto = g.running-upto;
          chosen-upto = g.chosen-upto;
          places = length-set out k t.next ∙ m.places;
          few = m.few;
          inside = omega (arith, merging-room);
          merged = m.merged ∙ rw (g.merges, stored out k t.next (omega (arith, merging-room, m.places))) (sym (append_snoc (map unit_of (take k out)) (unit_of t.next) _));
        }

  pub merging-over : length rs ≤ i → length cs ≤ j → first_units k out ≡ put_all cs rs
  unfolding put_all
  merging-over h l =
      first-map k out (omega (arith, m.inside, m.places))
      ∙ sym (m.merged ∙ rw (drop-end i rs h, drop-end j cs l) (append-nil (map unit_of (take k out))))

-- whether something is left
pub some_left : (i count j n : ℕ) → any_left i count j n ≡ true → i ≤ count → j ≤ n → i + j < count + n
unfolding any_left
some_left i count j n e h k = go (ltb i count) refl e
  where
    go : (t : Bool) → ltb i count ≡ t → (t || ltb j n) ≡ true → i + j < count + n
    go true f g = omega (arith, ltb-true i count f)
    go false f g = omega (arith, ltb-true j n g)

pub none_left : (i count j n : ℕ) → any_left i count j n ≡ false → (count ≤ i) × (n ≤ j)
unfolding any_left
none_left i count j n e =
    (ltb-false i count (or_fst (ltb i count) (ltb j n) e), ltb-false j n (or_snd (ltb i count) (ltb j n) e))

-- as many places as a day has are enough
pub fits-few : (cs rs : List RunningUnit) → units_formed rs ≡ true → Fits cs rs → length (put_all cs rs) ≤ most_running
fits-few cs rs e f = rw (put-all-length cs rs f.rising (order-rising (ordered rs e))) f.few
