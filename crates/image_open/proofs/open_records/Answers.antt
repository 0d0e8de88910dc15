use mathlib.Core.Path.{refl, sym, ◌∙◌}
use Rattle.image_open.specs.Opens.{closed, opened}
use Rattle.image_open.proofs.Stages.{many, gaps, unformed, misshapen, accepted}
use Rattle.image_open.proofs.open_records.Goals as goal

pub returns-then-count-gt-MAX_RECORDS : goal.returns-then-count-gt-MAX_RECORDS
returns-then-count-gt-MAX_RECORDS c = closed (many _ _ _ _ _ c.requires.1 c.if-count-gt-MAX_RECORDS.true)

pub returns-then-not-tiled : goal.returns-then-not-tiled
returns-then-not-tiled c =
    closed (gaps _ _ _ _ _ c.requires.1 c.if-count-gt-MAX_RECORDS.false (rw (c.directory_at.ensures, c.records_at.ensures) at (sym c.tiled.ensures ∙ c.if-not-tiled.true)))

pub returns-then-not-all_formed : goal.returns-then-not-all_formed
returns-then-not-all_formed c =
    let t = rw (c.directory_at.ensures, c.records_at.ensures) at (sym c.tiled.ensures ∙ c.if-not-tiled.false) in
    let f = rw (c.directory_at.ensures, c.records_at.ensures) at (sym c.all_formed.ensures ∙ c.if-not-all_formed.true) in
    closed (unformed _ _ _ _ _ c.requires.1 c.if-count-gt-MAX_RECORDS.false t f)

pub returns-then-not-shaped : goal.returns-then-not-shaped
returns-then-not-shaped c =
    let t = rw (c.directory_at.ensures, c.records_at.ensures) at (sym c.tiled.ensures ∙ c.if-not-tiled.false) in
    let f = rw (c.directory_at.ensures, c.records_at.ensures) at (sym c.all_formed.ensures ∙ c.if-not-all_formed.false) in
    let p = rw (c.directory_at.ensures, c.records_at.ensures) at (sym c.shaped.ensures ∙ c.if-not-shaped.true) in
    closed (misshapen _ _ _ _ _ c.requires.1 c.if-count-gt-MAX_RECORDS.false t f p)

pub returns : goal.returns
returns c =
    let t = rw (c.directory_at.ensures, c.records_at.ensures) at (sym c.tiled.ensures ∙ c.if-not-tiled.false) in
    let f = rw (c.directory_at.ensures, c.records_at.ensures) at (sym c.all_formed.ensures ∙ c.if-not-all_formed.false) in
    let p = rw (c.directory_at.ensures, c.records_at.ensures) at (sym c.shaped.ensures ∙ c.if-not-shaped.false) in
    opened (rw (c.directory_at.ensures, c.records_at.ensures) (accepted _ _ _ _ _ c.requires.1 c.if-count-gt-MAX_RECORDS.false t f p)) refl
