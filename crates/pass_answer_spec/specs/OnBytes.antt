-- Demand 3 on bytes: of the image that linearization is given and the image that it writes. (model/specs/Demand3.antt: the claim of two runs.)
use Rattle.std.specs.Prelude.{ℕ, ◌≡◌, List}
use Rattle.model.specs.Syntax.{Prog}
use Rattle.model.specs.Pass.{linearize}
use Rattle.model.specs.Machine.{Given}
use Rattle.model.specs.Source.{source_start}
use Rattle.model.specs.Linear.{linear_start}
use Rattle.model.specs.Demand3.{Starts}
use Rattle.image_spec.specs.Layout.{layout1}
use Rattle.image_spec.specs.Reading.{accept, reading}
use Rattle.scope_spec.specs.Calls.{writes}
use Rattle.pass_answer_spec.specs.Calls.{linearize_of}

-- document 01, "The two machines": an accepted program is one that linearization, given enough buffer, answers with 0. The source run is the
-- source machine's on it; the linearized run is the linear machine's on the program that linearization gives for it, from the same start
abbrev pub Demand3OnBytes : Type 0
Demand3OnBytes =
    (s bytes : List ℕ) (size m : ℕ) → linearize_of layout1 s size ≡ writes bytes m
    → (P Q : Prog) → reading layout1 s ≡ accept P → reading layout1 bytes ≡ accept Q
    → (place : ℕ) (vs : List Given) → (Q ≡ linearize P) × Starts P (source_start P place vs) (linear_start Q place vs)
