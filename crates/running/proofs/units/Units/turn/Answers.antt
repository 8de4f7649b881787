-- A turn of the merge, by what is left and which number is lower. Assumes nothing.
use mathlib.Core.Path.{◌≡◌}
use native.Mathlib.Omega.{arith}
use lib.ListN.{length}
use Rattle.running.proofs.ViewLaws.{mapped}
use Rattle.running.proofs.CommitLaws.{unit-alone, choice-alone, unit-first, both, choice-first}
use borrow.Author.Rules.{rules}
use Rattle.running.proofs.units.Units.turn.Goals as goal

pub offset_bounds-chosen-j : goal.offset_bounds-chosen-j
offset_bounds-chosen-j c = omega arith

pub bounds-chosen-j : goal.bounds-chosen-j
bounds-chosen-j c = omega arith

pub returns-then-i-self : goal.returns-then-i-self
returns-then-i-self c = let places : length c.args.self.running ≡ 64 = search (rules, mapped) in
    let rooms : length c.args.chosen.running ≡ 64 = search (rules, mapped) in
    choice-alone _ _ _ _ c.requires.fits (omega arith) (omega arith) (omega arith)

pub offset_bounds-self-i : goal.offset_bounds-self-i
offset_bounds-self-i c = omega arith

pub bounds-self-i : goal.bounds-self-i
bounds-self-i c = omega arith

pub returns-then-j-chosen : goal.returns-then-j-chosen
returns-then-j-chosen c = let places : length c.args.self.running ≡ 64 = search (rules, mapped) in
    let rooms : length c.args.chosen.running ≡ 64 = search (rules, mapped) in
    unit-alone _ _ _ _ c.requires.fits (omega arith) (omega arith) (omega arith)

pub offset_bounds-chosen-j-2 : goal.offset_bounds-chosen-j-2
offset_bounds-chosen-j-2 c = omega arith

pub bounds-chosen-j-2 : goal.bounds-chosen-j-2
bounds-chosen-j-2 c = omega arith

pub returns-then-r-c : goal.returns-then-r-c
returns-then-r-c c = let places : length c.args.self.running ≡ 64 = search (rules, mapped) in
    let rooms : length c.args.chosen.running ≡ 64 = search (rules, mapped) in
    unit-first _ _ _ _ c.requires.fits (omega arith) (omega arith) (omega arith) (omega arith) (omega arith)

pub returns-then-r-c-2 : goal.returns-then-r-c-2
returns-then-r-c-2 c = let places : length c.args.self.running ≡ 64 = search (rules, mapped) in
    let rooms : length c.args.chosen.running ≡ 64 = search (rules, mapped) in
    both _ _ _ _ c.requires.fits (omega arith) (omega arith) (omega arith) (omega arith) (omega arith)

pub returns : goal.returns
returns c = let places : length c.args.self.running ≡ 64 = search (rules, mapped) in
    let rooms : length c.args.chosen.running ≡ 64 = search (rules, mapped) in
    choice-first _ _ _ _ c.requires.fits (omega arith) (omega arith) (omega arith) (omega arith) (omega arith)
