-- Document 01, "The day": "Two days are compared by their hour and running units." A day's view is these two. Assumes
-- nothing: a day that counts more units than it has places is seen with as many as it counts, and so as the ill-formed day
-- that it is.
use Rattle.outcome.specs.Day.{DayView}
use Rattle.running.specs.View.{units_of}
use Rattle.engine.specs.declared.day.Day.{Day}

unfoldable pub view_of : Day → DayView
view_of d = record { hour = d.hour; running = units_of d.units }
