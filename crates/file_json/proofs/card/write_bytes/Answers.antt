use Rattle.std.proofs.Common.{subst, sym}
use Rattle.std.specs.Prelude.{Option, OnOk, ℕ}
use Rattle.json_fields.specs.Shown.{AddsMembers}
use Rattle.file_json.specs.Cards.{bytes_then}
use Rattle.file_json.proofs.Left.{no_bytes}
use Rattle.file_json.proofs.card.write_bytes.Goals as goal

pub returns-in-None : goal.returns-in-None
returns-in-None c =
    subst (λ (o : Option ℕ). OnOk c.write_all_bytes.result (AddsMembers c.args.writer.now c.write_all_bytes.new.writer (bytes_then o c.args.string.now))) (sym c.in-None.is) c.write_all_bytes.ensures

pub returns-in-Some : goal.returns-in-Some
returns-in-Some c = no_bytes c.args.last _ c.args.writer.now c.args.string.now c.in-Some.is
