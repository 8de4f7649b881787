-- What asking answers of the numbers that are kept, whether or not they were made by feeding. Assumes nothing.
use Rattle.std.specs.Prelude.{ℕ, ◌+◌, ◌-◌, cond, ◌||◌, ltb, leb}
use Rattle.tables.specs.Refusals.{bare_refusal}
use Rattle.pivotal.specs.Test.{most_amounts, test_verdict, verdict_letter, TestOutcome}
use Rattle.pivotal.specs.declared.feeding.FedTest.{FedTest}

unfoldable pub left_kept : FedTest → ℕ
left_kept t = t.total - (t.largest.first + t.largest.second)

unfoldable pub asked : FedTest → TestOutcome
asked t =
    cond (ltb most_amounts t.count || leb t.count t.place)
    (record { told = bare_refusal 11; left = 0; verdict = 0 })
    (record { told = bare_refusal 0; left = left_kept t; verdict = verdict_letter (test_verdict (left_kept t) t.need) })
