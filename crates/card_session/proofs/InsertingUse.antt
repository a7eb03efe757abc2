-- The current use that an insertion writes, and the event of a session that was not closed.
use Rattle.std.proofs.Common.{◌≡◌, inl, inr, ⊎_elim, ℕ, ◌+◌, ◌≤◌, Bool, true, false, List, length, Option, Some, option_map, IfSome, refl, sym, ◌∙◌, ap, subst, arith}
use Rattle.std.specs.Prelude.{◌⊎◌, ◌↔◌, IsTrue}
use Rattle.card_layout.specs.declared.files.Application.{Application}
use Rattle.card_layout.specs.Files.{files_of, image_size_of, place_of, size_of}
use Rattle.tach_media.specs.Medium.{State, LeavesOnly, Reads, IsPartlyWritten, LiesInside, put}
use Rattle.tach_media.proofs.Runs.{weaken, after_reads, goes_by, where_told, at_image}
use Rattle.tach_media.proofs.Ranges.{lies_part}
use Rattle.tacho_types.specs.declared.texts.Registration.{Registration}
use Rattle.tacho_types.specs.Numbers.{time_bytes}
use Rattle.card_files.specs.declared.current_use.CurrentUse.{CurrentUse}
use Rattle.card_files.specs.Noting.{HoldsEvent, IsNotingEvent, IsEventNoted}
use Rattle.card_validity.specs.card_image.Fields.{file, current_use}
use Rattle.card_session.proofs.OnCard.{may_still}
use Rattle.card_session.specs.Inserting.{MayInsert, HoldsUnclosed, IsNoted, IsNoting, unclosed, timed, registered, IsOpening}

-- ---- where it stands

pub use_inside : (a : Application) → place_of a (file 0x0507) + 19 ≤ image_size_of a
unfolding files_of
use_inside a = omega arith

pub in_use : (p : Application) (s : State) (place offset n : ℕ) → place ≡ place_of p (file 0x0507) + offset → offset + n ≤ 19 → MayInsert p s → (place + n ≤ s.size) × LiesInside s.writable place n
in_use p s place offset n is low may =
    subst (λ (q : ℕ). (q + n ≤ s.size) × LiesInside s.writable q n) (sym is) (
      omega (arith, use_inside p, may.keep.fits, low),
      lies_part s.writable (place_of p (file 0x0507)) 19 (place_of p (file 0x0507) + offset) n (omega arith) (omega (arith, low)) may.current,
    )

-- after a run of calls the same may be written
pub insert_still : (p q : Application) {old new : State} {R : List ℕ → List ℕ → Type 0} → LeavesOnly old new R → q ≡ p → MayInsert p old → MayInsert q new
insert_still p q {old} {new} run is may = record {
  keep = may_still p q run is may.keep;
  events = subst (λ (a : Application). LiesInside new.writable (place_of a (file 0x0502)) (size_of a (file 0x0502))) (sym is) (subst (λ (w : List (ℕ × ℕ)). LiesInside w (place_of p (file 0x0502)) (size_of p (file 0x0502))) (sym run.writable) may.events);
  current = subst (λ (a : Application). LiesInside new.writable (place_of a (file 0x0507)) 19) (sym is) (subst (λ (w : List (ℕ × ℕ)). LiesInside w (place_of p (file 0x0507)) 19) (sym run.writable) may.current);
}

-- ---- the session time

module _ (app : Application) (seconds place : ℕ) (bytes : List ℕ) (place_is : place ≡ place_of app (file 0x0507)) (bytes_are : bytes ≡ time_bytes (record { 0 = seconds })) where
  timed_is : (x : List ℕ) → put place bytes x ≡ timed app seconds x
  timed_is x = ap (λ (n : ℕ). put n bytes x) place_is ∙ ap (λ (b : List ℕ). put (place_of app (file 0x0507)) b x) bytes_are

  pub time_written : (o p : Option (List ℕ)) → p ≡ option_map (put place bytes) o → p ≡ option_map (timed app seconds) o
  time_written o p is = subst (λ (b : List ℕ). p ≡ option_map (put (place_of app (file 0x0507)) b) o) bytes_are (subst (λ (n : ℕ). p ≡ option_map (put n bytes) o) place_is is)

  pub time_moments : {old new : State} → length bytes ≡ 4 → LeavesOnly old new (IsPartlyWritten place bytes) → LeavesOnly old new (λ x c. (c ≡ x) ⊎ (c ≡ timed app seconds x))
  time_moments long run = weaken run (λ x c was is. ⊎_elim (λ none. inl none) (λ all. inr (all ∙ timed_is x)) (is.whole (omega (arith, long))))

-- ---- the registration behind it

module _ (app : Application) (registration : Registration) (place : ℕ) (bytes : List ℕ) (place_is : place ≡ place_of app (file 0x0507) + 4) (bytes_are : bytes ≡ registration.0) where
  pub registration_written : (o p : Option (List ℕ)) → p ≡ option_map (put place bytes) o → p ≡ option_map (registered app registration) o
  registration_written o p is = subst (λ (b : List ℕ). p ≡ option_map (put (place_of app (file 0x0507) + 4) b) o) bytes_are (subst (λ (n : ℕ). p ≡ option_map (put n bytes) o) place_is is)

  pub registration_moments : {old new : State} → LeavesOnly old new (IsPartlyWritten place bytes) → LeavesOnly old new (IsPartlyWritten (place_of app (file 0x0507) + 4) registration.0)
  registration_moments {old} {new} run = subst (λ (b : List ℕ). LeavesOnly old new (IsPartlyWritten (place_of app (file 0x0507) + 4) b)) bytes_are (subst (λ (n : ℕ). LeavesOnly old new (IsPartlyWritten n bytes)) place_is run)

-- ---- the event

module _ (app : Application) (current : CurrentUse) (now : ℕ) (held : Bool) (old mid : State) (reads : Reads old mid false) (there : IfSome old.image (λ x. IsTrue held ↔ HoldsEvent app 6 current.session.0 x)) where
  tells : (x : List ℕ) → old.image ≡ Some x → IsTrue held ↔ HoldsEvent app 6 current.session.0 x
  tells x was = at_image (λ x. IsTrue held ↔ HoldsEvent app 6 current.session.0 x) was there

  pub none_noted : held ≡ true → IfSome old.image (λ x. IfSome mid.image (λ y. current ≡ current_use app x → IsNoted app now x y))
  none_noted there_is = where_told old.image mid.image (λ x y. current ≡ current_use app x → IsNoted app now x y) (λ x y was is same.
      let image : mid.image ≡ old.image = reads.same refl in
      let one : y ≡ x = some_same x y (sym was ∙ sym image ∙ is) in
      inl (subst (λ (u : CurrentUse). HoldsEvent app 6 u.session.0 x) same ((tells x was).0 there_is), one))
    where
      some_same : (x y : List ℕ) → Some x ≡ Some y → y ≡ x
      some_same x y is = cc

  module _ (not_there : held ≡ false) where
    not_held : (x : List ℕ) → old.image ≡ Some x → current ≡ current_use app x → HoldsUnclosed app x → ⊥
    not_held x was same holds =
        let present : held ≡ true = (tells x was).1 (subst (λ (u : CurrentUse). HoldsEvent app 6 u.session.0 x) (sym same) holds) in
        absurd (cc)

    pub noting : {new : State} → LeavesOnly mid new (IsNotingEvent app (unclosed current now)) → LeavesOnly old new (λ x c. current ≡ current_use app x → IsNoting app now x c)
    noting {new} next = weaken (after_reads reads.leaves (reads.same refl) next) (λ x c was is same. (not_held x was same, subst (λ (u : CurrentUse). IsNotingEvent app (unclosed u now) x c) same is))

    pub noted : (new : State) → IfSome mid.image (λ x. IfSome new.image (IsEventNoted app (unclosed current now) x)) → IfSome old.image (λ x. IfSome new.image (λ y. current ≡ current_use app x → IsNoted app now x y))
    noted new done = where_told old.image new.image (λ x y. current ≡ current_use app x → IsNoted app now x y) (λ x y was is same.
        let here = at_image (λ y. IsEventNoted app (unclosed current now) x y) is (at_image (λ x. IfSome new.image (IsEventNoted app (unclosed current now) x)) (reads.same refl ∙ was) done) in
        inr (not_held x was same, subst (λ (u : CurrentUse). IsEventNoted app (unclosed u now) x y) same here))

-- ---- the opening

module _ (app : Application) (registration : Registration) (now : ℕ) where
  pub opening_failed : {old new : State} → LeavesOnly old new (IsPartlyWritten (place_of app (file 0x0507) + 4) registration.0) → LeavesOnly old new (IsOpening app registration now)
  opening_failed run = weaken run (λ x c was is. inl is)

  pub opening : {old mid new : State} → LeavesOnly old mid (IsPartlyWritten (place_of app (file 0x0507) + 4) registration.0) → mid.image ≡ option_map (registered app registration) old.image
      → LeavesOnly mid new (λ x c. (c ≡ x) ⊎ (c ≡ timed app now x)) → LeavesOnly old new (IsOpening app registration now)
  opening first written next = goes_by (registered app registration) (opening_failed first) written next (λ x c was is. ⊎_elim (λ none. inr (inl none)) (λ all. inr (inr all)) is)
