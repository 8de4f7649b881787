-- Document 01, "The day": "Release takes a unit out and changes nothing else; its place can be used again." What a release
-- promises, for any day and any number. Assumes nothing.
use Rattle.std.specs.Prelude.{ℕ, ◌<◌, ◌≡◌}
use Rattle.tables.specs.Refusals.{told, told_by}
use Rattle.tables.specs.declared.files.Refusal.{Refusal}
use Rattle.outcome.specs.Day.{release_refusal, released}
use Rattle.engine.specs.View.{view_of}
use Rattle.engine.specs.declared.day.Day.{Day}
use Rattle.engine.specs.declared.releasing.Released.{Released}

pub record Releases (day : Day) (unit : ℕ) (r : Released) : Type 0 where
  pub tells : told_by r.answer ≡ told (release_refusal (view_of day) unit)
  pub day-after : view_of r.day ≡ released (view_of day) unit
  -- a refused call hands back the very day, the places that aren't counted too
  pub very-day : 0 < (told_by r.answer).number → r.day ≡ day
