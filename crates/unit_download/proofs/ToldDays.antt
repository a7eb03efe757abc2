-- The messages of a unit's file have so many days as the unit tells.
use Rattle.std.proofs.Common.{◌≡◌, ◌∙◌, ℕ, ◌+◌, List, [], ◌∷◌, ◌++◌, length, map, refl, ap, sym, subst, arith}
use Rattle.std.specs.Prelude.{Option, Some, None, IfSome}
use Rattle.std.specs.Io.KnownBytes.{Appends}
use Rattle.tach_media.specs.Medium.{State, IsCoherent, HoldsBytes}
use Rattle.unit_model.specs.Days.{StoredDay}
use Rattle.unit_model.specs.Image.{IsUnit}
use Rattle.unit_model.specs.Decoding.{Decodes}
use Rattle.message_model.specs.Messages.{Message, DayMessage, ADay, AnEventList, ASpeedList, ATechnical, IsUnitFile}
use Rattle.message_model.specs.Sending.{sent_days, messages_of, unit_file, day_message_of, event_message_of, speed_message_of, technical_message_of}
use Rattle.link_loader.proofs.ImageMessages.{file_good}
use Rattle.unit_download.specs.declared.measuring.FileSize.{FileSize}
use Rattle.unit_download.specs.Measures.{day_count, IsSizeOf}

days-of : (f : StoredDay → DayMessage) (ds : List StoredDay) (rest : List Message) → day_count (map (λ d. ADay (f d)) ds ++ rest) ≡ length ds + day_count rest
days-of f [] rest = omega arith
days-of f (d ∷ ds) rest = omega (arith, days-of f ds rest)

pub days-told : (x : List ℕ) → day_count (messages_of x) ≡ length (sent_days x)
unfolding messages_of
days-told x = omega (arith, days-of (λ d. day_message_of x d) (sent_days x) (AnEventList (event_message_of x) ∷ ASpeedList (speed_message_of x) ∷ ATechnical (technical_message_of x) ∷ []))

-- so what was downloaded was measured
pub measured-by : (s : State) (held : List ℕ) (m : FileSize) → IsCoherent s → IsUnit s → m.bytes ≡ length held → ((messages : List Message) → IsUnitFile messages held → m.days ≡ day_count messages)
    → HoldsBytes s → IfSome s.image (λ x. Decodes x × Appends (Some []) (Some held) (unit_file x)) → IfSome s.image (λ x. IsSizeOf x m)
measured-by s held m whole unit bytes days holds file = by s.image refl file
  where
    by : (o : Option (List ℕ)) → s.image ≡ o → IfSome o (λ x. Decodes x × Appends (Some []) (Some held) (unit_file x)) → IfSome o (λ x. IsSizeOf x m)
    by None is file = tt
    by (Some x) is file =
        let same : held ≡ unit_file x = file.1 in
        let good = file_good x (record { sized = whole.sized x is ∙ omega (arith, unit.sized, unit.behind); bytes = holds.told x is; decodes = file.0 }) in
        record {
          bytes = bytes ∙ ap (λ (l : List ℕ). length l) same;
          days = days (messages_of x) (subst (λ (l : List ℕ). IsUnitFile (messages_of x) l) (sym same) good) ∙ days-told x;
        }
