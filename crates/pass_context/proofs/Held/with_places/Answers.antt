-- `Held::with_places` meets its contract. Assumes nothing.
use Rattle.std.proofs.Common.{rules, tests, ℕ, ◌≡◌, refl, sym, ap, ◌∙◌, Bool, true, false, ◌||◌, cond, List, [], ◌∷◌, map, take}
use Rattle.std.specs.List.{filter, fold}
use Rattle.std.proofs.lemmas.List.{take-map}
use Rattle.std.proofs.lemmas.Iterator.{YieldsList-from_slice}
use Rattle.std.proofs.lemmas.Iterator.Consumers.{YieldsList-from_filter, fold_from_yields_List}
use Rattle.syntax.specs.Names.{same_var_id}
use Rattle.syntax.specs.declared.names.VarId.{VarId}
use Rattle.pass_work_spec.specs.Work.{Work}
use Rattle.pass_entries.specs.Entries.{entry_in}
use Rattle.pass_entries.specs.Masks.{with_bit_lem, with_places_lem}
use Rattle.pass_entries.specs.declared.entries.FlatEntry.{FlatEntry}
use Rattle.pass_context.proofs.Held.with_places.Goals as goal

-- the mask with an entry's place
abbrev placed : ℕ → FlatEntry → ℕ
placed m e = with_bit_lem m e.place

-- an entry that is in the list or not
fold-cond : (b : Bool) (m : ℕ) (e : FlatEntry) (es : List FlatEntry) → fold placed m (cond b (e ∷ es) es) ≡ fold placed (cond b (placed m e) m) es
fold-cond true m e es = refl
fold-cond false m e es = refl

-- the entries that stand for one of the two, folded
module _ (fst snd : VarId) where
  abbrev either : FlatEntry → Bool
  either e = same_var_id e.source fst || same_var_id e.source snd

  folded : (es : List FlatEntry) (m : ℕ) → fold placed m (filter either es) ≡ with_places_lem fst snd (map entry_in es) m
  folded [] m = refl
  folded (e ∷ es) m = fold-cond (either e) m e (filter either es) ∙ folded es (cond (either e) (placed m e) m)

pub returns : goal.returns
returns c =
    let a = c.args in
    let es = take a.self.len a.self.entries in
    fold_from_yields_List _ placed a.mask c.fold.result c.fold.ensures.ran
    (YieldsList-from_filter _ (either a.fst a.snd) (YieldsList-from_slice es cc) c.filter.ensures.closure (λ x b q k. search (rules, tests)))
    (λ m x b q k. search (rules, tests))
    ∙ folded a.fst a.snd es a.mask
    ∙ ap (λ (W : Work). with_places_lem a.fst a.snd W a.mask) (sym (take-map entry_in a.self.len a.self.entries))
