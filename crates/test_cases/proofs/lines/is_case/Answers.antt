-- The first byte of a line, if there is one. Assumes nothing.
use native.Mathlib.Omega.{arith}
use Rattle.test_cases.proofs.LineLaws.{no-case-empty, no-case-blank, case-unless-comment}
use Rattle.test_cases.proofs.lines.is_case.Goals as goal

pub returns-then-line-eq0 : goal.returns-then-line-eq0
returns-then-line-eq0 c = no-case-empty _ (omega arith)

pub returns-then-line-eq-BLANK : goal.returns-then-line-eq-BLANK
returns-then-line-eq-BLANK c = no-case-blank _ (omega arith)

pub returns : goal.returns
returns c = case-unless-comment _ (λ e. omega arith) (λ e. omega arith)
