-- A SELECT of a file that is found.
use Rattle.std.proofs.Common.{◌≡◌, ℕ, ◌==◌, ◌||◌, not, if◌then◌else◌, Bool, true, false, List, Option, Some, None, option_map, is_none, refl, sym, ◌∙◌, ap}
use Rattle.std.specs.Prelude.{option_and_then}
use Rattle.std.proofs.lemmas.Bool.{eqb-true}
use Rattle.card_layout.specs.declared.files.Fid.{Fid}
use Rattle.card_layout.specs.declared.files.Range.{Range}
use Rattle.card_layout.specs.Application.{first_bad_field, application_of}
use Rattle.card_layout.specs.Files.{files_of, range_of, is_updated}
use Rattle.card_layout.specs.declared.command.Command.TheVariants.{Select}
use Rattle.card_layout.specs.declared.command.CardState.{CardState}
use Rattle.card_layout.specs.declared.command.Directory.{Directory}
use Rattle.card_layout.specs.declared.command.Directory.TheVariants.{Master, Tachograph}
use Rattle.card_layout.specs.declared.command.ElementaryFile.{ElementaryFile}
use Rattle.card_layout.specs.Outcomes.{Outcome, Fixes, found, sized_file, is_under, is_fixed, fixed_range, needs_sizes, select_found, select_outcome, in_directory, done, nothing}
use Rattle.card_commands.specs.Sending.{IsSent}

-- a file that is found needs no sizes that are not fixed yet
kept : (under fixed master tachograph : Bool) (x file : ElementaryFile) (sized : List ℕ → Option ElementaryFile) (image before after : Option (List ℕ))
    → (if under then (if fixed then Some x else option_and_then sized before) else None) ≡ Some file → Fixes (not (fixed || master || tachograph)) image before after → after ≡ before
kept under fixed master tachograph x file sized image (Some bytes) after is fixes = fixes
kept true true master tachograph x file sized image None after is fixes = fixes
kept true false master tachograph x file sized image None after is fixes = absurd (cc)
kept false fixed master tachograph x file sized image None after is fixes = absurd (cc)

pub kept_sizes : (card : CardState) (fid : Fid) (file : ElementaryFile) (image after : Option (List ℕ)) → found card fid ≡ Some file → Fixes (needs_sizes card (Select fid)) image card.application after → after ≡ card.application
kept_sizes card fid file image after is fixes =
    kept (is_under card.directory fid) (is_fixed fid) (fid.0 == 0x3F00) (fid.0 == 0x0500) (record { fid = fid; range = fixed_range fid; updated = false }) file (λ bytes. sized_file bytes fid) image card.application after is fixes

-- the directories' identifiers are no file's
none_either : (b : Bool) (o : Option ElementaryFile) → o ≡ None → (if b then o else None) ≡ None
none_either true o is = is
none_either false o is = refl

no_file : (n : ℕ) (directory : Directory) (application : Option (List ℕ)) → is_fixed (record { 0 = n }) ≡ false → ((bytes : List ℕ) → range_of (application_of bytes) (record { 0 = n }) ≡ None)
    → (if is_under directory (record { 0 = n }) then (if is_fixed (record { 0 = n }) then Some (record { fid = record { 0 = n }; range = fixed_range (record { 0 = n }); updated = false }) else option_and_then (λ bytes. sized_file bytes (record { 0 = n })) application) else None) ≡ None
no_file n directory application other none = none_either (is_under directory (record { 0 = n })) _
    (ap (λ (b : Bool). if b then Some (record { fid = record { 0 = n }; range = fixed_range (record { 0 = n }); updated = false }) else option_and_then (λ bytes. sized_file bytes (record { 0 = n })) application) other ∙ behind application)
  where
    behind : (o : Option (List ℕ)) → option_and_then (λ bytes. sized_file bytes (record { 0 = n })) o ≡ None
    behind None = refl
    behind (Some bytes) = none_either (is_none (first_bad_field bytes)) _ (ap (option_map (λ (r : Range). record { fid = record { 0 = n }; range = r; updated = is_updated (application_of bytes) (record { 0 = n }) })) (none bytes))

no_master : (card : CardState) → found card (record { 0 = 0x3F00 }) ≡ None
unfolding files_of
no_master card = no_file 0x3F00 card.directory card.application refl (λ bytes. refl)

no_tachograph : (card : CardState) → found card (record { 0 = 0x0500 }) ≡ None
unfolding files_of
no_tachograph card = no_file 0x0500 card.directory card.application refl (λ bytes. refl)

other_than : (card : CardState) (fid : Fid) (file : ElementaryFile) (n : ℕ) → found card (record { 0 = n }) ≡ None → found card fid ≡ Some file → (fid.0 == n) ≡ false
other_than card fid file n none is = cases (fid.0 == n) refl
  where
    cases : (b : Bool) → (fid.0 == n) ≡ b → b ≡ false
    cases false e = refl
    cases true e =
        let same : found card fid ≡ found card (record { 0 = n }) = ap (λ (m : ℕ). found card (record { 0 = m })) (eqb-true fid.0 n e) in
        let missing : Option ElementaryFile = None in
        let both : Some file ≡ missing = sym is ∙ same ∙ none in
        absurd (cc)

last_of : (a b : Bool) (x y z : Outcome) → a ≡ false → b ≡ false → (if a then x else if b then y else z) ≡ z
last_of true b x y z first second = absurd (cc)
last_of false true x y z first second = absurd (cc)
last_of false false x y z first second = refl

selected_outcome : (card : CardState) (fid : Fid) (file : ElementaryFile) → found card fid ≡ Some file → select_outcome card fid ≡ done (record card { selected = Some file }) nothing
selected_outcome card fid file is =
    last_of (fid.0 == 0x3F00) (fid.0 == 0x0500) (done (in_directory Master card) nothing) (done (in_directory Tachograph card) nothing) (select_found card (found card fid))
    (other_than card fid file 0x3F00 (no_master card) is) (other_than card fid file 0x0500 (no_tachograph card) is) ∙ ap (select_found card) is

-- after it the file is selected
pub selects : (image : Option (List ℕ)) (before after : CardState) (answer : List ℕ) (fid : Fid) (file : ElementaryFile) → IsSent (Select fid) image before after answer → found before fid ≡ Some file → after ≡ record before { selected = Some file }
selects image before after answer fid file sent is =
    sent.performed.state
    ∙ ap (λ (a : Option (List ℕ)). (select_outcome (record before { application = a }) fid).card) (kept_sizes before fid file image after.application is sent.performed.sizes)
    ∙ ap (λ (o : Outcome). o.card) (selected_outcome before fid file is)
