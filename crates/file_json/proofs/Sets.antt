-- The lists of events and of faults, by their types.
use Rattle.std.proofs.Common.{◌≡◌, ◌∙◌, ℕ, zero, suc, ◌+◌, ◌*◌, ◌/◌, List, length, take, drop, refl, ap, arith, length-drop}
use Rattle.std.specs.Prelude.{None}
use Rattle.std.proofs.lemmas.List.{length-take-le}
use Rattle.card_image.specs.Fields.{file}
use Rattle.card_layout.specs.declared.files.Application.{Application}
use Rattle.card_layout.specs.Files.{files_of, size_of}
use Rattle.json.specs.Json.{Items, array, item, member, no_members, object}
use Rattle.json_fields.specs.declared.kinds.Kind.{Kind}
use Rattle.json_fields.specs.declared.kinds.Kind.TheVariants as kind
use Rattle.json_fields.specs.Kinds.{fields_of}
use Rattle.json_fields.specs.Shown.{records_shown}
use Rattle.std.specs.Prelude.{codes}
use Rattle.file_json.specs.declared.card.Shape.TheVariants.{Events, Faults}
use Rattle.file_json.specs.Cards.{lists_of, lists_shown, told}
use Rattle.file_json.specs.Parts.{width_of}

-- lists of so many bytes each are lists of so many records
lists_are : (count n : ℕ) (k : Kind) (value : List ℕ) → (n * width_of k) / width_of k ≡ n → length value ≡ count * (n * width_of k) → lists_shown count (n * width_of k) k value ≡ lists_of count n k value
unfolding lists_shown
lists_are zero n k value each long = refl
lists_are (suc count) n k value each long =
    let more : suc count * (n * width_of k) ≡ n * width_of k + count * (n * width_of k) = grind arith in
    let wide : length (take (n * width_of k) value) ≡ n * width_of k = length-take-le (n * width_of k) value (omega (arith, long, more)) in
    let own : length (take (n * width_of k) value) / width_of k ≡ n = ap (λ (m : ℕ). m / width_of k) wide ∙ each in
    ap (λ (m : ℕ). item (records_shown m (fields_of k) (take (n * width_of k) value)) (lists_shown count (n * width_of k) k (drop (n * width_of k) value))) own
    ∙ ap (λ (js : Items). item (records_shown n (fields_of k) (take (n * width_of k) value)) js) (lists_are count n k (drop (n * width_of k) value) each (omega (arith, length-drop (n * width_of k) value, long, more)))

pub events_by_type : (app : Application) (value : List ℕ) → length value ≡ size_of app (file 0x0502)
    → told None Events value ≡ object (member (codes "cardEventRecords") (array (lists_of 6 app.events kind.CardEvent value)) no_members)
unfolding files_of
events_by_type app value long =
    let size : size_of app (file 0x0502) ≡ 6 * app.events * 24 = refl in
    let whole : length value ≡ 6 * (app.events * 24) = omega (arith, long, size) in
    let each : length value / 6 ≡ app.events * 24 = omega (arith, whole) in
    let records : app.events * 24 / 24 ≡ app.events = omega arith in
    ap (λ (n : ℕ). object (member (codes "cardEventRecords") (array (lists_shown 6 n kind.CardEvent value)) no_members)) each
    ∙ ap (λ (js : Items). object (member (codes "cardEventRecords") (array js) no_members)) (lists_are 6 app.events kind.CardEvent value records whole)

pub faults_by_type : (app : Application) (value : List ℕ) → length value ≡ size_of app (file 0x0503)
    → told None Faults value ≡ object (member (codes "cardFaultRecords") (array (lists_of 2 app.faults kind.CardFault value)) no_members)
unfolding files_of
faults_by_type app value long =
    let size : size_of app (file 0x0503) ≡ 2 * app.faults * 24 = refl in
    let whole : length value ≡ 2 * (app.faults * 24) = omega (arith, long, size) in
    let each : length value / 2 ≡ app.faults * 24 = omega (arith, whole) in
    let records : app.faults * 24 / 24 ≡ app.faults = omega arith in
    ap (λ (n : ℕ). object (member (codes "cardFaultRecords") (array (lists_shown 2 n kind.CardFault value)) no_members)) each
    ∙ ap (λ (js : Items). object (member (codes "cardFaultRecords") (array js) no_members)) (lists_are 2 app.faults kind.CardFault value records whole)
