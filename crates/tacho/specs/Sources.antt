-- Which forms take names of files behind their words (profile).
use Rattle.std.specs.Prelude.{Bool, true, false, Option, Some, None}
use Rattle.tacho.specs.declared.forms.Form.{Form}
use Rattle.tacho.specs.declared.forms.Form.TheVariants.{Minutes, Record, Read}

-- the forms that read their input to its end
abbrev pub takes_names : Option Form → Bool
takes_names (Some (Minutes rule)) = true
takes_names (Some Record) = true
takes_names (Some (Read reading)) = true
takes_names other = false
