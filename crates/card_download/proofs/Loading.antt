-- A card through a port, and what was written of it.
use Rattle.std.proofs.Common.{◌≡◌, ℕ, ◌≤◌, List, Option, None, inr, Result, Ok, Err, sym, ◌∙◌, ap, subst, arith}
use Rattle.std.specs.Prelude.{IfSome, IsErrAnd}
use Rattle.std.specs.Io.KnownBytes.{Appends}
use Rattle.card_layout.specs.declared.files.Application.{Application}
use Rattle.card_layout.specs.Application.{application_in}
use Rattle.card_layout.specs.Files.{image_size_of}
use Rattle.card_layout.proofs.Sizes.{largest_image}
use Rattle.card_layout.specs.declared.command.CardState.{CardState}
use Rattle.card_layout.specs.declared.command.ElementaryFile.{ElementaryFile}
use Rattle.tach_media.specs.Medium.{State}
use Rattle.tach_media.specs.Streams.{AppendsFront}
use Rattle.tach_media.proofs.Runs.{at_image, if_told}
use Rattle.card_image.specs.Own.{own_sizes}
use Rattle.card_image.specs.CardFile.{card_file}
use Rattle.card_commands.specs.Ports.{IsPort, IsJudged, port_state}
use Rattle.card_download.specs.declared.fault.CopyFault.{CopyFault}
use Rattle.card_download.specs.declared.fault.CopyFault.TheVariants as copy
use Rattle.card_download.specs.declared.fault.CardFileFault.{CardFileFault}
use Rattle.card_download.specs.Faults.{of_copy}
use Rattle.card_download.specs.Written.{Writes, file_of, bad_field}

-- a port has the size of the card's files
pub port_fits : {app other : Application} {selected : Option ElementaryFile} {card : CardState} {s : State} → IsPort app selected card s → app ≡ other → image_size_of other ≤ (port_state app s).size
port_fits {app} {other} {selected} {card} {s} port is = subst (λ (a : Application). image_size_of a ≤ (port_state app s).size) is (omega (arith, largest_image app port.good, port.size))

-- the card file by the sizes that were read is that of the image
file_is : (app : Application) (x : List ℕ) → IsJudged (application_in x) (Ok app) → card_file app x ≡ file_of x
unfolding file_of own_sizes
file_is app x judged = ap (λ (a : Application). card_file a x) judged.1

-- a front of it
cut_file : {T : Type 0} (r : Result T CardFileFault) (e : CopyFault) (x : List ℕ) (h l : Option (List ℕ)) → IsErrAnd r (λ v. v ≡ of_copy e) → bad_field x ≡ None → AppendsFront h l (file_of x) → Writes r x h l
cut_file (Ok done) e x h l is good front = absurd is
cut_file {T} (Err fault) copy.Failed x h l is good front = subst (λ (v : CardFileFault). let r : Result T CardFileFault = Err v in Writes r x h l) (sym is) (inr (good, front))
cut_file {T} (Err fault) copy.WriteFault x h l is good front = subst (λ (v : CardFileFault). let r : Result T CardFileFault = Err v in Writes r x h l) (sym is) (good, front)

module _ (o p : Option (List ℕ)) (same : p ≡ o) (app : Application) (h l : Option (List ℕ)) (judged : IfSome o (λ x. IsJudged (application_in x) (Ok app))) where
  pub written : IfSome p (λ x. Appends h l (card_file app x)) → IfSome o (λ x. (bad_field x ≡ None) × Appends h l (file_of x))
  written all = if_told o (λ x. (bad_field x ≡ None) × Appends h l (file_of x)) (λ x told.
      let was = at_image (λ y. IsJudged (application_in y) (Ok app)) told judged in
      (was.0, subst (λ (b : List ℕ). Appends h l b) (file_is app x was) (at_image (λ y. Appends h l (card_file app y)) (same ∙ told) all)))

  pub written_in_part : {T : Type 0} (r : Result T CardFileFault) (e : CopyFault) → IsErrAnd r (λ v. v ≡ of_copy e) → IfSome p (λ x. AppendsFront h l (card_file app x)) → IfSome o (λ x. Writes r x h l)
  written_in_part r e is front = if_told o (λ x. Writes r x h l) (λ x told.
      let was = at_image (λ y. IsJudged (application_in y) (Ok app)) told judged in
      cut_file r e x h l is was.0 (subst (λ (b : List ℕ). AppendsFront h l b) (file_is app x was) (at_image (λ y. AppendsFront h l (card_file app y)) (same ∙ told) front)))
