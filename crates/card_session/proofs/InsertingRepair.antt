-- The repair of a card whose session was left open: the cut, and the entries that it lacks.
use Rattle.std.proofs.Common.{◌≡◌, inl, inr, ℕ, ◌/◌, Bool, true, false, List, Option, IfSome, refl, sym, ◌∙◌, ap, subst}
use Rattle.std.specs.Prelude.{◌⊎◌}
use Rattle.activity_codec.specs.declared.entries.Entry.{Entry}
use Rattle.tacho_types.specs.declared.texts.Registration.{Registration}
use Rattle.card_layout.specs.declared.files.Application.{Application}
use Rattle.tach_media.specs.Medium.{State}
use Rattle.tach_media.proofs.Runs.{if_told, told_too, at_image}
use Rattle.card_files.specs.declared.vehicle.Vehicle.{Vehicle}
use Rattle.card_days.specs.card_model.Days.{Day}
use Rattle.card_days.specs.card_model.Changes.{trimmed}
use Rattle.card_validity.specs.card_image.Fields.{last_use_of}
use Rattle.card_session.specs.Vehicles.{Vehicles}
use Rattle.card_session.specs.Books.{Book, mark_of}
use Rattle.card_session.specs.Sessions.{Session, IsOpenBook, KnowsCard, EndsStrictly, book_of}
use Rattle.card_session.specs.Parts.{DoesPart, IsPartDone, IsPartMoment, AnyBook}
use Rattle.card_session.specs.Inserting.{Follow, lacked, with_cut, IsCutting, with_owed, IsBeforeAll, IsReplaying, EndsCut, repaired, IsRepairMoment}
use Rattle.card_session.proofs.Composing.{part_of, then_part, failed_part, told_book}
use Rattle.card_session.proofs.InsertingBooks.{cut_ready}

module _ (s : Session) (mark odometer : ℕ) (owed ls : List Entry) (mark_is : mark ≡ last_use_of s.vehicle / 60) (ls_is : ls ≡ lacked mark owed) (m : ℕ) (follow : Follow m owed) where
  abbrev size : ℕ
  size = s.application.activity

  abbrev g : Registration
  g = s.registration

  abbrev book : List ℕ → Book
  book x = book_of s.application x

  at : (x : List ℕ) → KnowsCard s x → mark ≡ mark_of (book x)
  at x knows = mark_is ∙ ap (λ (o : Option Vehicle). last_use_of o / 60) knows.vehicle

  abbrev IsEither : Book → List Day → Vehicles → Type 0
  IsEither b ds v = IsCutting mark b ds v ⊎ IsReplaying size g odometer ls (with_cut mark b) ds v

  made : (x : List ℕ) → KnowsCard s x → with_owed size g odometer ls (with_cut mark (book x)) ≡ repaired size g odometer owed (book x)
  made x knows = ap (λ (es : List Entry). with_owed size g odometer es (with_cut mark (book x))) ls_is ∙ ap (λ (n : ℕ). with_owed size g odometer (lacked n owed) (with_cut n (book x))) (at x knows)

  moment : (x : List ℕ) → KnowsCard s x → (ds : List Day) (v : Vehicles) → IsEither (book x) ds v → IsRepairMoment size g odometer owed (book x) ds v
  moment x knows ds v is =
      subst (λ (n : ℕ). IsCutting n (book x) ds v ⊎ IsReplaying size g odometer (lacked n owed) (with_cut n (book x)) ds v) (at x knows)
      (subst (λ (es : List Entry). IsCutting mark (book x) ds v ⊎ IsReplaying size g odometer es (with_cut mark (book x)) ds v) ls_is is)

  ready : (x : List ℕ) → KnowsCard s x → EndsCut (book x) → IsBeforeAll ls (with_cut mark (book x))
  ready x knows strict =
      subst (λ (es : List Entry). IsBeforeAll es (with_cut mark (book x))) (sym ls_is)
      (cut_ready m mark owed (book x) knows.days.holds.ordered (at x knows) (subst (λ (n : ℕ). EndsStrictly (trimmed n (book x).days)) (sym (at x knows)) strict) follow)

  module _ (t : Session) where
    strictly : {old mid : State} {failed : Bool} → DoesPart old mid failed (IsPartDone s t AnyBook (with_cut mark)) (IsPartMoment s AnyBook (IsCutting mark)) → DoesPart old mid failed (IsPartDone s t EndsCut (with_cut mark)) (IsPartMoment s EndsCut (IsCutting mark))
    strictly part = part_of s t AnyBook EndsCut (with_cut mark) (with_cut mark) (IsCutting mark) (IsCutting mark) part (λ x knows strict. tt) (λ x knows strict. refl) (λ x knows strict ds v q. q)

    weaker : {old new : State} {failed : Bool} (u : Session) → DoesPart old new failed (IsPartDone s u EndsCut (λ b. with_owed size g odometer ls (with_cut mark b))) (IsPartMoment s EndsCut IsEither)
        → DoesPart old new failed (IsPartDone s u EndsCut (repaired size g odometer owed)) (IsPartMoment s EndsCut (IsRepairMoment size g odometer owed))
    weaker u part =
        part_of s u EndsCut EndsCut (λ b. with_owed size g odometer ls (with_cut mark b)) (repaired size g odometer owed) IsEither (IsRepairMoment size g odometer owed) part (λ x knows strict. strict) (λ x knows strict. made x knows)
        (λ x knows strict. moment x knows)

    pub cut_failed : {old mid : State} {failed : Bool} (u : Session) → DoesPart old mid true (IsPartDone s t AnyBook (with_cut mark)) (IsPartMoment s AnyBook (IsCutting mark)) → failed ≡ true
        → DoesPart old mid failed (IsPartDone s u EndsCut (repaired size g odometer owed)) (IsPartMoment s EndsCut (IsRepairMoment size g odometer owed))
    cut_failed u part is = weaker u (failed_part s t u EndsCut (with_cut mark) (λ b. with_owed size g odometer ls (with_cut mark b)) (IsCutting mark) IsEither (strictly part) is (λ b ds v strict q. inl q))

    pub cut_then : {old mid new : State} {failed : Bool} (u : Session) → t.application ≡ s.application → t.registration ≡ s.registration
        → DoesPart old mid false (IsPartDone s t AnyBook (with_cut mark)) (IsPartMoment s AnyBook (IsCutting mark))
        → DoesPart mid new failed (IsPartDone t u (IsBeforeAll ls) (with_owed t.application.activity t.registration odometer ls)) (IsPartMoment t (IsBeforeAll ls) (IsReplaying t.application.activity t.registration odometer ls))
        → DoesPart old new failed (IsPartDone s u EndsCut (repaired size g odometer owed)) (IsPartMoment s EndsCut (IsRepairMoment size g odometer owed))
    cut_then {old} {mid} {new} {failed} u app registration first next =
        let sized = subst (λ (p : Application). DoesPart mid new failed (IsPartDone t u (IsBeforeAll ls) (with_owed p.activity t.registration odometer ls)) (IsPartMoment t (IsBeforeAll ls) (IsReplaying p.activity t.registration odometer ls))) app next in
        let entries = subst (λ (r : Registration). DoesPart mid new failed (IsPartDone t u (IsBeforeAll ls) (with_owed size r odometer ls)) (IsPartMoment t (IsBeforeAll ls) (IsReplaying size r odometer ls))) registration sized in
        weaker u (then_part s t u EndsCut (IsBeforeAll ls) (with_cut mark) (with_owed size g odometer ls) (IsCutting mark) (IsReplaying size g odometer ls) IsEither app (strictly first) entries
        (λ x y knows strict then. ready x knows strict) (λ b ds v strict q. inl q) (λ b ds v strict q. inr q))

    -- and a word may follow
    pub cut_open : {old mid : State} → t.application ≡ s.application → t.registration ≡ s.registration
        → DoesPart old mid false (IsPartDone s t AnyBook (with_cut mark)) (IsPartMoment s AnyBook (IsCutting mark))
        → IfSome mid.image (λ y. KnowsCard t y → IsBeforeAll ls (book_of t.application y) → IsOpenBook (with_owed t.application.activity t.registration odometer ls (book_of t.application y)))
        → IfSome old.image (λ x. KnowsCard s x → EndsCut (book x) → IsOpenBook (repaired size g odometer owed (book x)))
    cut_open {old} {mid} app registration first opens = if_told old.image _ (λ x was knows strict.
        let y = told_too old.image mid.image x (sym first.leaves.tells) was in
        let a = at_image (λ y. IsPartDone s t AnyBook (with_cut mark) x y) y.1 (at_image (λ x. IfSome mid.image (IsPartDone s t AnyBook (with_cut mark) x)) was (first.done refl)) knows tt in
        let there : book_of t.application y.0 ≡ with_cut mark (book x) = ap (λ (p : Application). book_of p y.0) app ∙ told_book s.application (with_cut mark (book x)) x y.0 a.0 in
        let open_at = at_image (λ y. KnowsCard t y → IsBeforeAll ls (book_of t.application y) → IsOpenBook (with_owed t.application.activity t.registration odometer ls (book_of t.application y))) y.1 opens a.1 (subst (IsBeforeAll ls) (sym there) (ready x knows strict)) in
        let sized = subst (λ (p : Application). IsOpenBook (with_owed p.activity t.registration odometer ls (book_of t.application y.0))) app open_at in
        let here = subst (λ (r : Registration). IsOpenBook (with_owed size r odometer ls (book_of t.application y.0))) registration sized in
        subst IsOpenBook (made x knows) (subst (λ (k : Book). IsOpenBook (with_owed size g odometer ls k)) there here))
