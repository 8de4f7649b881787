-- Laws of linked rows: how they come to be linked, and the search along links. Assumes nothing.
use Prim.Native.Nat.{ℕ, zero, suc, ◌+◌, ◌-◌, ◌*◌, ◌≤◌, ◌<◌, min}
use mathlib.Core.Path.{◌≡◌, refl, sym, ◌∙◌, ap}
use mathlib.Core.Logic.{⊎_elim}
use mathlib.Core.Bool.{Bool, true, false, cond, ◌||◌, or-true}
use mathlib.Core.List.{List, ◌++◌, append-nil}
use native.Mathlib.Omega.{arith}
use native.Mathlib.Numerals.{add-one}
use lib.Dec.{eqb}
use lib.ListN.{length, get_or, set, replicate, take, drop, length-set, length-append, length-take, length-drop}
use lib.Seq.{get_or-set_same, get_or-set_other, lt-length-set, take_at, drop_at, length-take-le, get_or-take, get_or-drop}
use borrow.Author.Tests.{eq-eqb, ne_eqb, eqb-true}
use Rattle.base.proofs.Lists.{rest-lent, rest_back}
use Rattle.base.proofs.Tests.{either, eq-or-ne, false-true}
use Rattle.links.specs.promises.Links.{last_same, most_linked, Unlinked, row_linked, Linked, LinkedTo, any_before, LinksLead, Along, unit_keys, schedule_keys, by_unit, by_schedule, unit_key, schedule_key, unit_links, links_length, RowsLinked}

-- a run of zeros has no row
pub unlinked : (n i : ℕ) → get_or {A = ℕ} (replicate n 0) i 0 ≡ 0
unlinked zero i = refl
unlinked (suc n) zero = refl
unlinked (suc n) (suc i) = unlinked n i

-- a row comes in either part of a run, of which each is lent
pub row-length : (links : List ℕ) (x k : ℕ) → length (row_linked links x k) ≡ length links
row-length links x k = simp length-set

pub parts-linked :
    (a : ℕ) (links by_first by-second : List ℕ) (x y k : ℕ) → a ≤ length links → by_first ≡ row_linked (take a links) x k →
    by-second ≡ row_linked (take (length (by_first ++ drop a links) - a) (drop a (by_first ++ drop a links))) y k →
    take a (by_first ++ drop a links)
    ++ (by-second ++ drop (length (by_first ++ drop a links) - a) (drop a (by_first ++ drop a links)))
    ≡ row_linked (take a links) x k ++ row_linked (drop a links) y k
parts-linked a links by_first by-second x y k room first second =
    let long : length by_first ≡ a = rw first (row-length (take a links) x k ∙ length-take-le a links room) in
    rw (
      take_at by_first (drop a links) a long,
      rest_back a (by_first ++ drop a links),
      append-nil by-second,
      second,
      rest-lent a (by_first ++ drop a links),
      drop_at by_first (drop a links) a long,
      first,
    )

-- of n rows k are linked
pub record Linking (key : ℕ → ℕ) (keys n : ℕ) (links : List ℕ) (k : ℕ) : Type 0 where
  upto : k ≤ n
  few : n ≤ most_linked
  pub room : most_linked + keys ≤ length links
  by_row : (i : ℕ) → i < k → get_or links i 0 ≡ last_same key (key i) i
  by_key : (x : ℕ) → x < keys → get_or links (most_linked + x) 0 ≡ last_same key x k

module _ (key : ℕ → ℕ) where
  pub last-here : (x k : ℕ) → key k ≡ x → last_same key x (suc k) ≡ suc k
  unfolding last_same
  last-here x k e = rw (eq-eqb (key k) x e)

  pub last-later : (x k : ℕ) → (key k ≡ x → ⊥) → last_same key x (suc k) ≡ last_same key x k
  unfolding last_same
  last-later x k e = rw (ne_eqb (key k) x e)

  module _ (keys n : ℕ) where
    pub linking-none :
        (links : List ℕ) → n ≤ most_linked → most_linked + keys ≤ length links →
        ((x : ℕ) → x < keys → get_or links (most_linked + x) 0 ≡ 0) → Linking key keys n links 0
    unfolding last_same
    linking-none links few room none =
        record {
          upto = omega arith;
          few = few;
          room = room;
          by_row = λ (i : ℕ) (h : i < 0). absurd (omega arith);
          by_key = none;
        }

    module _ (now : List ℕ) (k x : ℕ) (l : Linking key keys n now k) (h : k < n) (is : x ≡ key k) (one : x < keys) where
      abbrev head : ℕ
      head = get_or now (most_linked + x) 0

      abbrev stored : List ℕ
      stored = set now k head

      row_kept : (i : ℕ) → i < most_linked → get_or (row_linked now x k) i 0 ≡ get_or stored i 0
      row_kept i f = get_or-set_other stored (most_linked + x) i (k + 1) 0 (λ (e : i ≡ most_linked + x). omega arith)

      key-kept : (y : ℕ) → get_or stored (most_linked + y) 0 ≡ get_or now (most_linked + y) 0
      key-kept y = get_or-set_other now k (most_linked + y) head 0 (λ (e : most_linked + y ≡ k). omega (arith, l.few))

      rows_next : (i : ℕ) → i < k + 1 → get_or (row_linked now x k) i 0 ≡ last_same key (key i) i
      rows_next i f = ⊎_elim here earlier (eq-or-ne i k)
        where
          here : i ≡ k → get_or (row_linked now x k) i 0 ≡ last_same key (key i) i
          here e =
              row_kept i (omega (arith, l.few))
              ∙ rw (e, get_or-set_same now k head 0 (omega (arith, l.few, l.room)), l.by_key x one, is)

          earlier : (i ≡ k → ⊥) → get_or (row_linked now x k) i 0 ≡ last_same key (key i) i
          earlier e =
              row_kept i (omega (arith, l.few)) ∙ get_or-set_other now k i head 0 e ∙ l.by_row i (omega arith)

      keys-next : (y : ℕ) → y < keys → get_or (row_linked now x k) (most_linked + y) 0 ≡ last_same key y (k + 1)
      keys-next y f = ⊎_elim here other (eq-or-ne y x) ∙ ap (last_same key y) (sym (add-one k))
        where
          here : y ≡ x → get_or (row_linked now x k) (most_linked + y) 0 ≡ last_same key y (suc k)
          here e =
              rw (e, get_or-set_same stored (most_linked + x) (k + 1) 0 (lt-length-set now k head (omega (arith, l.room))), last-here x k (sym is))
              (add-one k)

          other : (y ≡ x → ⊥) → get_or (row_linked now x k) (most_linked + y) 0 ≡ last_same key y (suc k)
          other e =
              get_or-set_other stored (most_linked + x) (most_linked + y) (k + 1) 0 (λ (s : most_linked + y ≡ most_linked + x). e (omega arith))
              ∙ key-kept y ∙ l.by_key y f ∙ sym (last-later y k (λ (s : key k ≡ y). e (sym s ∙ sym is)))

      pub linking-next : (next : List ℕ) → next ≡ row_linked now x k → Linking key keys n next (k + 1)
      linking-next next e =
          rw e
          record {
            upto = omega arith;
            few = l.few;
            room = rw (row-length now x k) l.room;
            by_row = rows_next;
            by_key = keys-next;
          }

    pub linking-over : (now : List ℕ) (k : ℕ) → Linking key keys n now k → n ≤ k → Linked key keys n now
    linking-over now k l h =
        let all : k ≡ n = omega (arith, l.upto) in
        record { few = l.few; room = l.room; by_row = rw all at l.by_row; by_key = rw all at l.by_key }

  -- the last row with a key is before k, and has the key
  pub last-upto : (x k : ℕ) → last_same key x k ≤ k
  unfolding last_same
  last-upto x zero = omega arith
  last-upto x (suc k) = go (eqb (key k) x) (last-upto x k)
    where
      go : (t : Bool) → last_same key x k ≤ k → cond t (suc k) (last_same key x k) ≤ suc k
      go true h = omega arith
      go false h = omega arith

  pub last_has : (x k j : ℕ) → last_same key x k ≡ suc j → key j ≡ x
  unfolding last_same
  last_has x zero j e = absurd (omega arith)
  last_has x (suc k) j e = go (eqb (key k) x) refl (last_has x k j) e
    where
      go :
          (t : Bool) → eqb (key k) x ≡ t → (last_same key x k ≡ suc j → key j ≡ x) → cond t (suc k) (last_same key x k) ≡ suc j →
          key j ≡ x
      go true q below e =
          let same : j ≡ k = omega arith in
          rw same (eqb-true (key k) x q)
      go false q below e = below e

  -- and no row with the key is behind it
  pub last-reaches : (x k j : ℕ) → j < k → key j ≡ x → j < last_same key x k
  last-reaches x zero j h e = absurd (omega arith)
  last-reaches x (suc k) j h e =
      ⊎_elim
      (λ (f : key k ≡ x). rw (last-here x k f) h)
      (λ (f : key k ≡ x → ⊥). rw (last-later x k f) (last-reaches x k j (earlier f) e))
      (eq-or-ne (key k) x)
    where
      earlier : (key k ≡ x → ⊥) → j < k
      earlier f = ⊎_elim (λ (i : j ≡ k). absurd (f (rw (← i) e))) (λ (i : j ≡ k → ⊥). omega arith) (eq-or-ne j k)

  leads-from :
      (x k : ℕ) (links : List ℕ) (left : ℕ) → ((j : ℕ) → j < k → get_or links j 0 ≡ last_same key (key j) j) → k ≤ length links →
      left ≡ last_same key x k → LinksLead key x links left
  leads-from x k links left linked room is =
      let upto : left ≤ k = rw is (last-upto x k) in
      record {
        room = omega arith;
        linked = λ (j : ℕ) (h : j < left). linked j (omega arith);
        on = λ (j : ℕ) (e : left ≡ suc j). last_has x k j (sym is ∙ e);
      }

  module _ (x : ℕ) (links : List ℕ) (left : ℕ) (l : LinksLead key x links left) (h : 0 < left) where
    leads-last : get_or links (left - 1) 0 ≡ last_same key x (left - 1)
    leads-last = l.linked (left - 1) (omega arith) ∙ rw (l.on (left - 1) (omega arith))

    leads-less : get_or links (left - 1) 0 < left
    leads-less = omega (arith, rw (← leads-last) at (last-upto x (left - 1)))

    leads-next : LinksLead key x links (get_or links (left - 1) 0)
    leads-next =
        leads-from x (left - 1) links (get_or links (left - 1) 0)
        (λ (j : ℕ) (i : j < left - 1). l.linked j (omega arith))
        (omega (arith, l.room))
        leads-last

  -- what rows of other keys don't change is the same at the last row with the key
  last-skips :
      {T : Type 0} (g : ℕ → T) (x : ℕ) → ((k : ℕ) → (key k ≡ x → ⊥) → g (suc k) ≡ g k) → (k : ℕ) → g k ≡ g (last_same key x k)
  last-skips g x skips zero = unfold last_same in refl
  last-skips g x skips (suc k) =
      ⊎_elim
      (λ (e : key k ≡ x). rw (last-here x k e))
      (λ (e : key k ≡ x → ⊥). rw (last-later x k e) (skips k e ∙ last-skips g x skips k))
      (eq-or-ne (key k) x)

  -- behind it nothing passes a test that only rows with the key pass
  module _ (p : ℕ → Bool) (x : ℕ) (alike : (j : ℕ) → p j ≡ true → key j ≡ x) where
    other-fails : (k : ℕ) → (key k ≡ x → ⊥) → p k ≡ false
    other-fails k e = ⊎_elim (λ (t : p k ≡ true). absurd (e (alike k t))) (λ (f : p k ≡ false). f) (either (p k))

    pub last-any : (k : ℕ) → any_before p k ≡ any_before p (last_same key x k)
    unfolding any_before
    last-any k = last-skips (any_before p) x (λ (j : ℕ) (e : key j ≡ x → ⊥). rw (other-fails j e)) k

    -- so a search begins at the last row with the key
    along-from :
        (k : ℕ) (links : List ℕ) (left : ℕ) → ((j : ℕ) → j < k → get_or links j 0 ≡ last_same key (key j) j) → k ≤ length links →
        left ≡ last_same key x k → Along p k links left
    along-from k links left linked room is =
        record {
          key = key;
          wanted = x;
          alike = alike;
          leads = leads-from x k links left linked room is;
          upto = rw is (last-upto x k);
          rest = last-any k ∙ rw (← is);
        }

-- of n schedule rows k are linked, by unit and by unit and schedule
pub record RowsLinking (cells : List ℕ) (n : ℕ) (old new : List ℕ) (k : ℕ) : Type 0 where
  pub upto : k ≤ n
  pub few : n ≤ most_linked
  pub room : links_length ≤ length new
  pub same_length : length new ≡ length old
  pub by-unit : Linking (unit_key cells) unit_keys n (take unit_links new) k
  pub by-schedule : Linking (schedule_key cells) schedule_keys n (drop unit_links new) k

module _ (cells : List ℕ) (n : ℕ) (old : List ℕ) where
  pub rows-linking-none : n ≤ most_linked → links_length ≤ length old → Unlinked old → RowsLinking cells n old old 0
  rows-linking-none few room none =
      record {
        upto = omega arith;
        few = few;
        room = room;
        same_length = refl;
        by-unit =
            linking-none (unit_key cells) unit_keys n (take unit_links old) few (rw (length-take-le unit_links old (omega arith)) (omega arith))
            (λ (x : ℕ) (h : x < unit_keys). get_or-take unit_links old (most_linked + x) 0 (omega arith) ∙ none (most_linked + x));
        by-schedule =
            linking-none (schedule_key cells) schedule_keys n (drop unit_links old) few (omega (arith, length-drop unit_links old))
            (λ (x : ℕ) (h : x < schedule_keys). get_or-drop unit_links old (most_linked + x) 0 ∙ none (unit_links + (most_linked + x)));
      }

  -- row k comes, of a unit and a schedule
  module _ (now : List ℕ) (k unit schedule : ℕ) (l : RowsLinking cells n old now k) (h : k < n) where
    abbrev of-unit : List ℕ
    of-unit = row_linked (take unit_links now) (by_unit unit) k

    abbrev of-schedule : List ℕ
    of-schedule = row_linked (drop unit_links now) (by_schedule unit schedule) k

    unit-length : length of-unit ≡ unit_links
    unit-length = row-length (take unit_links now) (by_unit unit) k ∙ length-take-le unit_links now (omega (arith, l.room))

    schedule-length : length of-schedule ≡ length now - unit_links
    schedule-length = row-length (drop unit_links now) (by_schedule unit schedule) k ∙ length-drop unit_links now

    pub rows-linking-next :
        (next : List ℕ) → unit ≡ get_or cells (k * 9 + 0) 0 → schedule ≡ get_or cells (k * 9 + 1) 0 → next ≡ of-unit ++ of-schedule →
        RowsLinking cells n old next (k + 1)
    rows-linking-next next is-unit is-schedule e =
        let same : length next ≡ length now = omega (arith, l.room, ap length e ∙ length-append of-unit of-schedule, unit-length, schedule-length) in
        record {
          upto = omega arith;
          few = l.few;
          room = rw same l.room;
          same_length = same ∙ l.same_length;
          by-unit =
              linking-next (unit_key cells) unit_keys n (take unit_links now) k (by_unit unit) l.by-unit h
              (rw is-unit)
              (omega arith)
              (take unit_links next)
              (rw e (take_at of-unit of-schedule unit_links unit-length));
          by-schedule =
              linking-next (schedule_key cells) schedule_keys n (drop unit_links now) k (by_schedule unit schedule) l.by-schedule h
              (rw (is-unit, is-schedule))
              (omega arith)
              (drop unit_links next)
              (rw e (drop_at of-unit of-schedule unit_links unit-length));
        }

  pub rows-linking-over : (now : List ℕ) (k : ℕ) → RowsLinking cells n old now k → n ≤ k → RowsLinked cells n now
  rows-linking-over now k l h =
      record {
        by-unit = linking-over (unit_key cells) unit_keys n (take unit_links now) k l.by-unit h;
        by-schedule = linking-over (schedule_key cells) schedule_keys n (drop unit_links now) k l.by-schedule h;
      }

-- the first part of a run has the links that the whole has
part-linked : {key : ℕ → ℕ} {keys n : ℕ} (m : ℕ) (links : List ℕ) → Linked key keys n (take m links) → Linked key keys n links
part-linked {key} {keys} {n} m links l =
    let long : length (take m links) ≡ min m (length links) = length-take m links in
    record {
      few = l.few;
      room = omega (arith, l.room);
      by_row = λ (k : ℕ) (h : k < n). sym (get_or-take m links k 0 (omega (arith, l.room, l.few))) ∙ l.by_row k h;
      by_key = λ (x : ℕ) (h : x < keys). sym (get_or-take m links (most_linked + x) 0 (omega (arith, l.room))) ∙ l.by_key x h;
    }

-- rows whose keys stay are linked as they were
module _ (key now : ℕ → ℕ) (n : ℕ) (same : (j : ℕ) → j < n → now j ≡ key j) where
  last-same : (x k : ℕ) → k ≤ n → last_same now x k ≡ last_same key x k
  unfolding last_same
  last-same x zero h = refl
  last-same x (suc k) h = rw (same k (omega arith), last-same x k (omega arith))

  linked-same : {keys : ℕ} {links : List ℕ} → Linked key keys n links → Linked now keys n links
  linked-same l =
      record {
        few = l.few;
        room = l.room;
        by_row = λ k h. l.by_row k h ∙ rw (same k h) (sym (last-same (key k) k (omega arith)));
        by_key = λ x h. l.by_key x h ∙ sym (last-same x n (omega arith));
      }

pub rows_same :
    (cells now : List ℕ) (n : ℕ) {links : List ℕ} → ((j : ℕ) → j < n → get_or now (j * 9 + 0) 0 ≡ get_or cells (j * 9 + 0) 0) →
    ((j : ℕ) → j < n → get_or now (j * 9 + 1) 0 ≡ get_or cells (j * 9 + 1) 0) → RowsLinked cells n links → RowsLinked now n links
rows_same cells now n units schedules l =
    record {
      by-unit = linked-same (unit_key cells) (unit_key now) n (λ j h. rw (units j h)) l.by-unit;
      by-schedule = linked-same (schedule_key cells) (schedule_key now) n (λ j h. rw (units j h, schedules j h)) l.by-schedule;
    }

-- the parts of a run of links, and the second as it is lent
pub rows-length : {cells : List ℕ} {n : ℕ} {links : List ℕ} → RowsLinked cells n links → links_length ≤ length links
rows-length {links = links} l = omega (arith, l.by-schedule.room, length-drop unit_links links)

pub rows-by-schedule :
    {cells : List ℕ} {n : ℕ} {links : List ℕ} → RowsLinked cells n links →
    Linked (schedule_key cells) schedule_keys n (take (length links - unit_links) (drop unit_links links))
rows-by-schedule {links = links} l = rw (rest-lent unit_links links) l.by-schedule

pub rows-by-unit : {cells : List ℕ} {n : ℕ} {links : List ℕ} → RowsLinked cells n links → Linked (unit_key cells) unit_keys n links
rows-by-unit {links = links} l = part-linked unit_links links l.by-unit

-- it begins at the links of the row whose key is wanted
pub along-row :
    (key : ℕ → ℕ) (p : ℕ → Bool) (k : ℕ) (links : List ℕ) → LinkedTo key k links → ((j : ℕ) → p j ≡ true → key j ≡ key k) →
    Along p k links (get_or links k 0)
along-row key p k links l alike =
    along-from key p (key k) alike k links (get_or links k 0)
    (λ (j : ℕ) (h : j < k). l.rows j (omega arith))
    (omega (arith, l.room))
    (l.rows k (omega arith))

-- or at the key itself, for a search of all rows
pub along-key :
    {key : ℕ → ℕ} {keys n : ℕ} {links : List ℕ} (p : ℕ → Bool) (x : ℕ) → Linked key keys n links → x < keys →
    ((j : ℕ) → p j ≡ true → key j ≡ x) → Along p n links (get_or links (most_linked + x) 0)
along-key {key} {keys} {n} {links} p x l h alike =
    along-from key p x alike n links (get_or links (most_linked + x) 0) l.by_row (omega (arith, l.few, l.room)) (l.by_key x h)

leads-key :
    {key : ℕ → ℕ} {keys n : ℕ} {links : List ℕ} (x : ℕ) → Linked key keys n links → x < keys → LinksLead key x links (get_or links (most_linked + x) 0)
leads-key {key} {keys} {n} {links} x l h =
    leads-from key x n links (get_or links (most_linked + x) 0) l.by_row (omega (arith, l.few, l.room)) (l.by_key x h)

key-upto : {key : ℕ → ℕ} {keys n : ℕ} {links : List ℕ} (x : ℕ) → Linked key keys n links → x < keys → get_or links (most_linked + x) 0 ≤ n
key-upto {key} {keys} {n} x l h = rw (l.by_key x h) (last-upto key x n)

-- of linked rows, those as far as one of them
pub linked_to : {key : ℕ → ℕ} {keys n : ℕ} {links : List ℕ} (k : ℕ) → Linked key keys n links → k < n → LinkedTo key k links
linked_to k l h =
    record {
      room = omega (arith, l.few, l.room);
      rows = λ j i. l.by_row j (omega arith);
    }

-- a row is linked to none behind it
pub linked-upto : {key : ℕ → ℕ} {k : ℕ} {links : List ℕ} → LinkedTo key k links → get_or links k 0 ≤ k
linked-upto {key} {k} l = rw (l.rows k (omega arith)) (last-upto key (key k) k)

pub any_last : (p : ℕ → Bool) (left : ℕ) → 0 < left → any_before p left ≡ (p (left - 1) || any_before p (left - 1))
unfolding any_before
any_last p left h =
    let one_less : left ≡ suc (left - 1) = omega arith in
    ap (any_before p) one_less

-- places of which one passes a test
pub any_place : (p : ℕ → Bool) (n k : ℕ) → k < n → p k ≡ true → any_before p n ≡ true
unfolding any_before
any_place p zero k h e = absurd (omega arith)
any_place p (suc n) k h e =
    ⊎_elim
    (λ (f : k ≡ n). rw (← f, e))
    (λ (f : k ≡ n → ⊥). rw (any_place p n k (omega arith) e) (or-true (p n)))
    (eq-or-ne k n)

pub some-place : (p : ℕ → Bool) (n : ℕ) → any_before p n ≡ true → (k : ℕ) × (k < n) × (p k ≡ true)
unfolding any_before
some-place p zero e = false-true e
some-place p (suc n) e = go (p n) refl e (some-place p n)
  where
    go :
        (t : Bool) → p n ≡ t → (t || any_before p n) ≡ true → (any_before p n ≡ true → (k : ℕ) × (k < n) × (p k ≡ true)) →
        (k : ℕ) × (k < suc n) × (p k ≡ true)
    go true f e more = (n, omega arith, f)
    go false f e more =
        let (k, h, g) = more e in
        (k, omega arith, g)

-- one row of a search along links
module _ (p : ℕ → Bool) (k : ℕ) (links : List ℕ) (left : ℕ) (l : Along p k links left) where
  module _ (h : 0 < left) where
    pub along-here : p (left - 1) ≡ true → true ≡ any_before p k
    along-here e = sym (l.rest ∙ any_last p left h ∙ rw e)

    pub along-less : get_or links (left - 1) 0 < left
    along-less = leads-less l.key l.wanted links left l.leads h

    pub along-next : p (left - 1) ≡ false → Along p k links (get_or links (left - 1) 0)
    along-next e =
        record {
          key = l.key;
          wanted = l.wanted;
          alike = l.alike;
          leads = leads-next l.key l.wanted links left l.leads h;
          upto = omega (arith, along-less, l.upto);
          rest =
              l.rest ∙ any_last p left h
              ∙ rw e (last-any l.key p l.wanted l.alike (left - 1) ∙ rw (← leads-last l.key l.wanted links left l.leads h));
        }

  pub along-over : left ≤ 0 → false ≡ any_before p k
  unfolding any_before
  along-over h =
      let none_left : left ≡ 0 = omega arith in
      sym (l.rest ∙ rw none_left)

-- a state that is changed at each of k places, from the last to the first
unfoldable pub down : {S : Type 0} → (S → ℕ → S) → S → ℕ → S
down step s zero = s
down step s (suc k) = down step (step s k) k

-- it goes along links, with `left` places left, where only those of one key change it
pub record Walk {S : Type 0} (step : S → ℕ → S) (start : S) (k : ℕ) (links : List ℕ) (state : S) (left : ℕ) : Type 0 where
  pub key : ℕ → ℕ
  pub wanted : ℕ
  pub idle : (s : S) (j : ℕ) → (key j ≡ wanted → ⊥) → step s j ≡ s
  pub leads : LinksLead key wanted links left
  pub upto : left ≤ k
  pub rest : down step start k ≡ down step state left

module _ {S : Type 0} (step : S → ℕ → S) where
  last-down :
      (key : ℕ → ℕ) (x : ℕ) → ((s : S) (j : ℕ) → (key j ≡ x → ⊥) → step s j ≡ s) → (s : S) (k : ℕ) →
      down step s k ≡ down step s (last_same key x k)
  unfolding down
  last-down key x idle s k = last-skips key (down step s) x (λ (j : ℕ) (e : key j ≡ x → ⊥). rw (idle s j e)) k

  module _ (start : S) where
    -- it begins at the last row with the key
    pub walk-key :
        {key : ℕ → ℕ} {keys n : ℕ} {links : List ℕ} (x : ℕ) → Linked key keys n links → x < keys →
        ((s : S) (j : ℕ) → (key j ≡ x → ⊥) → step s j ≡ s) → Walk step start n links start (get_or links (most_linked + x) 0)
    walk-key {key} {keys} {n} {links} x l h idle =
        record {
          key = key;
          wanted = x;
          idle = idle;
          leads = leads-key x l h;
          upto = key-upto x l h;
          rest = last-down key x idle start n ∙ rw (← l.by_key x h);
        }

    -- one row of it
    module _ (k : ℕ) (links : List ℕ) (state : S) (left : ℕ) (w : Walk step start k links state left) where
      module _ (h : 0 < left) where
        pub walk_step : down step start k ≡ down step (step state (left - 1)) (left - 1)
        unfolding down
        walk_step =
            let one_less : left ≡ suc (left - 1) = omega arith in
            w.rest ∙ ap (down step state) one_less

        pub walk-less : get_or links (left - 1) 0 < left
        walk-less = leads-less w.key w.wanted links left w.leads h

        pub walk-next : (next : S) → next ≡ step state (left - 1) → Walk step start k links next (get_or links (left - 1) 0)
        walk-next next e =
            record {
              key = w.key;
              wanted = w.wanted;
              idle = w.idle;
              leads = leads-next w.key w.wanted links left w.leads h;
              upto = omega (arith, walk-less, w.upto);
              rest =
                  walk_step
                  ∙ rw (← e, last-down w.key w.wanted w.idle next (left - 1), leads-last w.key w.wanted links left w.leads h);
            }

      pub walk-over : left ≤ 0 → state ≡ down step start k
      unfolding down
      walk-over h =
          let none_left : left ≡ 0 = omega arith in
          sym (w.rest ∙ rw none_left)

-- a sum so far is at most the whole
pub down-more : (f : ℕ → ℕ) (sum k : ℕ) → sum ≤ down (λ (s : ℕ) (j : ℕ). s + f j) sum k
unfolding down
down-more f sum zero = omega arith
down-more f sum (suc k) = omega (arith, down-more f (sum + f k) k)
