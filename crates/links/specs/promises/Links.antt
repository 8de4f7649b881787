-- Rows linked by a key: each row to the last one before it that has its key, and each key to the last row of all that has
-- it. A search among rows of one key goes along the links. Assumes nothing.
use Rattle.std.specs.Prelude.{ℕ, zero, suc, ◌+◌, ◌*◌, ◌≤◌, ◌<◌, ◌%◌, ◌≡◌, Bool, true, false, cond, ◌||◌, List, eqb, length, get_or, set, take, drop}

-- one more than the place of the last of k rows that has the key x; 0 where none has
unfoldable pub last_same : (ℕ → ℕ) → ℕ → ℕ → ℕ
last_same key x zero = 0
last_same key x (suc k) =
    let more = last_same key x k in
    cond (eqb (key k) x) (suc k) more

-- the most rows that are linked: their links stand first in a run of links, and the keys' behind them
abbrev pub most_linked : ℕ
most_linked = 1024

-- no row is linked yet
abbrev pub Unlinked : List ℕ → Type 0
Unlinked links = (i : ℕ) → get_or links i 0 ≡ 0

-- row k comes, with the key x
abbrev pub row_linked : List ℕ → ℕ → ℕ → List ℕ
row_linked links x k = set (set links k (get_or links (most_linked + x) 0)) (most_linked + x) (k + 1)

-- n rows are linked, by so many keys
pub record Linked (key : ℕ → ℕ) (keys n : ℕ) (links : List ℕ) : Type 0 where
  pub few : n ≤ most_linked
  pub room : most_linked + keys ≤ length links
  pub by_row : (k : ℕ) → k < n → get_or links k 0 ≡ last_same key (key k) k
  pub by_key : (x : ℕ) → x < keys → get_or links (most_linked + x) 0 ≡ last_same key x n

-- so are the rows as far as row k
pub record LinkedTo (key : ℕ → ℕ) (k : ℕ) (links : List ℕ) : Type 0 where
  pub room : k < length links
  pub rows : (j : ℕ) → j ≤ k → get_or links j 0 ≡ last_same key (key j) j

-- whether one of k places passes a test
unfoldable pub any_before : (ℕ → Bool) → ℕ → Bool
any_before p zero = false
any_before p (suc k) = p k || any_before p k

-- links lead from the last of `left` rows, which has the key x, to each before it that has
pub record LinksLead (key : ℕ → ℕ) (x : ℕ) (links : List ℕ) (left : ℕ) : Type 0 where
  pub room : left ≤ length links
  pub linked : (j : ℕ) → j < left → get_or links j 0 ≡ last_same key (key j) j
  pub on : (j : ℕ) → left ≡ suc j → key j ≡ x

-- a search of k rows along links, of which `left` are left: what passes the test has one key
pub record Along (p : ℕ → Bool) (k : ℕ) (links : List ℕ) (left : ℕ) : Type 0 where
  pub key : ℕ → ℕ
  pub wanted : ℕ
  pub alike : (j : ℕ) → p j ≡ true → key j ≡ wanted
  pub leads : LinksLead key wanted links left
  pub upto : left ≤ k
  pub rest : any_before p k ≡ any_before p left

-- keys by unit, and by unit and schedule: any number has one, and rows of one unit or schedule share it
abbrev pub unit_keys : ℕ
unit_keys = 1024

abbrev pub schedule_keys : ℕ
schedule_keys = 2039

abbrev pub by_unit : ℕ → ℕ
by_unit unit = unit % unit_keys

abbrev pub by_schedule : ℕ → ℕ → ℕ
by_schedule unit schedule = (unit % 16384 * 128 + schedule % 128) % schedule_keys

-- the keys of schedule rows
abbrev pub unit_key : List ℕ → ℕ → ℕ
unit_key cells k = by_unit (get_or cells (k * 9 + 0) 0)

abbrev pub schedule_key : List ℕ → ℕ → ℕ
schedule_key cells k = by_schedule (get_or cells (k * 9 + 0) 0) (get_or cells (k * 9 + 1) 0)

-- the length of the links by unit, and of a whole run of links: those by unit, and behind them those by unit and schedule
abbrev pub unit_links : ℕ
unit_links = 2048

abbrev pub links_length : ℕ
links_length = 5111

-- n schedule rows are linked by their unit, and by their unit and schedule
pub record RowsLinked (cells : List ℕ) (n : ℕ) (links : List ℕ) : Type 0 where
  pub by-unit : Linked (unit_key cells) unit_keys n (take unit_links links)
  pub by-schedule : Linked (schedule_key cells) schedule_keys n (drop unit_links links)
