use Rattle.std.proofs.Common.{rules, tests, ◌≡◌, ℕ, ◌+◌, ◌-◌, ◌≤◌, length, nat_eq, take, drop, ap, ap₂, sym, ◌∙◌, arith, length-drop}
use lib.Seq.{drop-drop}
use Rattle.std.specs.List.{list_all}
use Rattle.std.proofs.lemmas.Iterator.{YieldsList-from_slice}
use Rattle.std.proofs.lemmas.Iterator.Search.{all_from_yields_List}
use Rattle.image_spec.specs.Parse.{got, only_if}
use Rattle.step_slots.proofs.SlotReads.{zeros-tested}
use Rattle.step_slots.proofs.all_zero.Goals as goal

pub returns : goal.returns
returns c =
    let a = c.args in
    let rest = drop a.at a.s.now in
    let size : a.at + a.n - a.at ≡ a.n = omega arith in
    let room : a.n ≤ length rest = omega (arith, length-drop a.at a.s.now) in
    let tested = all_from_yields_List (λ (b : ℕ). nat_eq b 0) _ _ c.all.result c.all.ensures.ran (YieldsList-from_slice (take (a.at + a.n - a.at) rest) cc) (λ x b q k. search (rules, tests)) in
    let result : c.all.result ≡ list_all (λ (b : ℕ). nat_eq b 0) (take a.n rest) = tested ∙ ap (λ i. list_all (λ (b : ℕ). nat_eq b 0) (take i rest)) size in
    zeros-tested a.n rest room ∙ ap₂ (λ t l. only_if t (got tt l)) (sym result) (drop-drop a.n a.at a.s.now)
