-- A unit file is the messages of one list alone, so a view of it shows the minutes of its image.
use Rattle.std.proofs.Common.{◌≡◌, ◌∙◌, ℕ, suc, List, [], ◌∷◌, None, map, refl, ap, sym, arith, All}
use Rattle.card_layout.specs.Fields.{joined}
use Rattle.unit_model.specs.Days.{UnitMinute}
use Rattle.unit_model.specs.Image.{unit_minutes}
use Rattle.message_model.specs.Messages.{Message, message_bytes, IsMessage}
use Rattle.message_model.specs.Sending.{messages_of, unit_file}
use Rattle.message_model.specs.Showing.{minutes_in}
use Rattle.message_model.proofs.Reading.{one_way}
use Rattle.message_model.proofs.Showing.{file_minutes}
use Rattle.link_loader.specs.Talking.{IsUnitImage}
use Rattle.link_loader.proofs.ImageMessages.{file_good}
use Rattle.file_view.specs.UnitShowing.{ShowsUnitFile}

all_rest : (m : Message) (ms : List Message) → All IsMessage (m ∷ ms) → All IsMessage ms
all_rest m ms all = λ k d low. all (suc k) d (omega (arith, low))

one_file : (ms ns : List Message) → All IsMessage ms → All IsMessage ns → joined (map message_bytes ms) ≡ joined (map message_bytes ns) → ms ≡ ns
one_file [] [] im in_ is = refl
one_file [] (n ∷ ns) im in_ is = absurd (cc)
one_file (m ∷ ms) [] im in_ is = absurd (cc)
one_file (m ∷ ms) (n ∷ ns) im in_ is =
    let same = one_way m n (joined (map message_bytes ms)) (joined (map message_bytes ns)) (im 0 m (omega arith)) (in_ 0 n (omega arith)) is in
    let rest = one_file ms ns (all_rest m ms im) (all_rest n ns in_) same.1 in
    (λ t. same.0 t ∷ rest t)

pub view_shows : (x : List ℕ) (shown : List UnitMinute) → IsUnitImage x → ShowsUnitFile None (unit_file x) shown → shown ≡ unit_minutes x
view_shows x shown image file =
    let good = file_good x image in
    let same : file.messages ≡ messages_of x = one_file file.messages (messages_of x) file.file.each good.each (sym file.file.spelled ∙ good.spelled) in
    file.shown_are ∙ ap (λ (l : List Message). minutes_in l) same ∙ file_minutes x
