-- What an entry that stands in an array says.
use Rattle.std.specs.Prelude.{false}
use Rattle.syntax.specs.Context.{empty_binding}
use Rattle.syntax.specs.Flat.{binding_of}
use Rattle.syntax.specs.declared.context.Chirality.TheVariants.{Prd}
use Rattle.syntax.specs.declared.context.FlatBinding.{FlatBinding}
use Rattle.pass_work_spec.specs.declared.Entry.{Entry}
use Rattle.pass_entries.specs.declared.entries.FlatEntry.{FlatEntry}

-- the binding as it stands in an array of bindings
abbrev pub flat_of : FlatEntry → FlatBinding
flat_of e = record { id = e.id; ty_id = e.ty_id; name = e.name; ty_name = e.ty_name; chi = e.chi; declared = e.declared; unused = 0 }

-- the entry that it stands for
abbrev pub entry_in : FlatEntry → Entry
entry_in e = record { binding = binding_of (flat_of e); source = e.source; place = e.place; spelled = e.spelled }

-- what stands in the unused places of the array: all 0
abbrev pub empty_flat_entry : FlatEntry
empty_flat_entry = record {
  id = record { 0 = 0 };
  source = record { 0 = 0 };
  ty_id = record { 0 = 0 };
  name = record { 0 = 0 };
  ty_name = record { 0 = 0 };
  chi = Prd;
  declared = false;
  place = 0;
  spelled = false;
}

-- and the entry that this stands for
abbrev pub empty_entry : Entry
empty_entry = record { binding = empty_binding; source = record { 0 = 0 }; place = 0; spelled = false }
