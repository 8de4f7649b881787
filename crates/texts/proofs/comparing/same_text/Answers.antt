-- Two texts of one length, pair by pair of their bytes. Assumes nothing.
use Rattle.std.proofs.Common.{rules, tests, ℕ, eqb, sym, ◌∙◌}
use borrow.Author.Tests.{ne_eqb}
use Rattle.std.proofs.lemmas.Iterator.{YieldsList-from_slice, YieldsList-from_zip}
use Rattle.std.proofs.lemmas.Iterator.Search.{all_from_yields_List}
use Rattle.texts.proofs.SameLaws.{same-pairs, other-length}
use Rattle.texts.proofs.comparing.same_text.Goals as goal

pub returns-then-s-t : goal.returns-then-s-t
returns-then-s-t c =
    let s = c.args.s.now in
    let t = c.args.t.now in
    same-pairs s t c.if-s-t.true
    (all_from_yields_List (λ (p : ℕ × ℕ). eqb p.0 p.1) c.all.new.self _ c.all.result c.all.ensures.ran (YieldsList-from_zip (YieldsList-from_slice s cc) (YieldsList-from_slice t cc)) (λ x b q k. search (rules, tests)))

pub returns-else-s-t : goal.returns-else-s-t
returns-else-s-t c =
    let n = c.if-s-t.false in
    ne_eqb _ _ n ∙ sym (other-length c.args.s.now c.args.t.now n)
