-- Demand 3 on bytes: the theorem. Assumes nothing.
use mathlib.Core.Path.{◌≡◌, sym, ◌∙◌, subst}
use Rattle.model.specs.Syntax.{Prog}
use Rattle.model.specs.Pass.{linearize}
use Rattle.model.specs.Source.{source_start}
use Rattle.model.specs.Linear.{linear_start}
use Rattle.model.specs.Demand3.{Starts}
use Rattle.model.specs.Questions.{Accepted}
use Rattle.model.proofs.Demand.{demand_3}
use Rattle.image_spec.specs.Reading.{Reading, accept}
use Rattle.pass_answer_spec.specs.OnBytes.{Demand3OnBytes}
use Rattle.pass_answer_spec.proofs.Readable.{output_reads}

-- an image reads as one program
same-program : {r : Reading} {P Q : Prog} → r ≡ accept P → r ≡ accept Q → P ≡ Q
same-program e k = let z = sym e ∙ k in cc (z)

pub demand_3_on_bytes : Demand3OnBytes
demand_3_on_bytes s bytes size m e P Q rP rQ place vs =
    let o = output_reads s size bytes m e in
    let p : o.program ≡ P = same-program o.source rP in
    let q : Q ≡ linearize P = same-program rQ o.reads ∙ cc (p) in
    (q, subst (λ (R : Prog). Starts P (source_start P place vs) (linear_start R place vs)) (sym q) (demand_3 P (subst Accepted p o.accepted) place vs))
