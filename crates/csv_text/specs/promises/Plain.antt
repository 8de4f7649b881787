-- Values of which every byte is TEXTDATA, so that they need no quotes. Assumes nothing.
use Rattle.std.specs.Prelude.{ℕ, Bool, true, ◌&&◌, List, [], ◌∷◌}
use Rattle.csv_text.specs.Records.{textdata}

unfoldable pub all_text : List ℕ → Bool
all_text [] = true
all_text (b ∷ v) = textdata b && all_text v

unfoldable pub all_texts : List (List ℕ) → Bool
all_texts [] = true
all_texts (v ∷ vs) = all_text v && all_texts vs
