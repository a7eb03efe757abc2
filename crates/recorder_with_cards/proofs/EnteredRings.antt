-- What is noted of a card that enters, and the rings of the unit.
use Rattle.std.proofs.Common.{◌≡◌, inl, inr, ⊎_elim, ℕ, Bool, true, false, cond, not, Some, IfSome, is_some, List, [], ◌∷◌, ◌++◌, refl, ap, sym, subst, ◌∙◌, arith}
use Rattle.std.specs.Prelude.{nat_eq, nat_lt}
use Rattle.std.specs.List.{AllByRecursion}
use Rattle.tach_media.specs.Medium.{State, IsCoherent, HasCause}
use Rattle.tach_media.proofs.Runs.{at_image}
use Rattle.unit_minutes.specs.gated_ring.Ring.{PointsInside, taken}
use Rattle.run_acts.specs.message_model.Records.{insertion_ring}
use Rattle.run_acts.specs.unit_notes.declared.insertion.Insertion.{Insertion}
use Rattle.run_acts.specs.unit_notes.Entries.{insertion_bytes}
use Rattle.run_acts.specs.run_crew.declared.cabin.Cabin.{Cabin}
use Rattle.run_minutes.proofs.run_devices.Parts.{told-one}
use Rattle.run_minutes.specs.declared.keeper.Keeper.{Keeper}
use Rattle.run_outcome.specs.declared.outcome.Outcome.{Outcome}
use Rattle.run_insertion.specs.declared.lines.Entering.{Entering}
use Rattle.run_insertion.specs.Entering.{Ending, Way, Unread, Unsized, Judged, Unfit, Ahead, Fell, Unasked, Unnoted, Seated, Lost, ending_of, insertion_of, seated, measured}
use Rattle.run_insertion.specs.Noted.{AreDone, AreBeingDone, HasNoted, UnitNote, Inserts, BeginsRow, Tells, IsOnUnit, IsComing, fault_of, moving_notes, unclosed_notes, notes_with, row_of}
use Rattle.run_insertion.specs.Entered.{IsPlace, HasEntered}
use Rattle.run_acts.specs.run_note_record.Ringed.{HasSameRings, LeavesRings, WritesImages, Around, MayBeAdded}
use Rattle.run_acts.proofs.run_rings.Same.{same-rings, then-same, outside-both, table-outside, rings-then}
use Rattle.run_acts.proofs.Ringing.{added-moment, leaves-writes}
use Rattle.recorder_with_cards.specs.EnteredRings.{InsertsAt, WritesBy, AcceptWrites}

-- ---- notes but an insertion

abbrev IsOther : UnitNote → Type 0
IsOther (Inserts insertion) = ⊥
IsOther (BeginsRow number session spared) = Unit {0}
IsOther (Tells event) = Unit {0}

other-done : (n : UnitNote) → IsOther n → (x y : List ℕ) → IsOnUnit n x y → HasSameRings x y
other-done (Inserts insertion) never x y done = absurd never
other-done (BeginsRow number session spared) other x y done = outside-both 624 384 x y (inl (omega arith)) done.beginning.outside
other-done (Tells event) other x y done = table-outside event.kind x y done.outside

other-moment : (n : UnitNote) → IsOther n → (x c : List ℕ) → IsComing n x c → HasSameRings x c
other-moment (Inserts insertion) never x c moment = absurd never
other-moment (BeginsRow number session spared) other x c moment = outside-both 624 384 x c (inl (omega arith)) moment.outside
other-moment (Tells event) other x c moment = table-outside event.kind x c moment.outside

abbrev AreOthers : List UnitNote → Type 0
AreOthers notes = AllByRecursion IsOther notes

others-done : (notes : List UnitNote) → AreOthers notes → (x y : List ℕ) → AreDone IsOnUnit notes x y → HasSameRings x y
others-done [] all x y is = subst (HasSameRings x) (sym is) (same-rings x)
others-done (n ∷ notes) all x y (z, done, rest) = then-same x z y (other-done n all.0 x z done) (others-done notes all.1 z y rest)

others-moment : (notes : List UnitNote) → AreOthers notes → (x c : List ℕ) → AreBeingDone IsOnUnit IsComing notes x c → HasSameRings x c
others-moment [] all x c never = absurd never
others-moment (n ∷ notes) all x c (inl moment) = other-moment n all.0 x c moment
others-moment (n ∷ notes) all x c (inr (z, done, rest)) = then-same x z c (other-done n all.0 x z done) (others-moment notes all.1 z c rest)

others-append : (one two : List UnitNote) → AreOthers one → AreOthers two → AreOthers (one ++ two)
others-append [] two all more = more
others-append (n ∷ one) two all more = (all.0, others-append one two all.1 more)

others-cond : (b : Bool) (one two : List UnitNote) → AreOthers one → AreOthers two → AreOthers (cond b one two)
others-cond true one two first second = first
others-cond false one two first second = second

moving-others : (e : Entering) (cabin : Cabin) → AreOthers (moving_notes e cabin)
moving-others e cabin = others-cond (nat_lt 0 e.speed) _ _ (tt, tt) tt

unclosed-others : (session : ℕ) (e : Entering) (cabin : Cabin) → AreOthers (unclosed_notes session e cabin)
unclosed-others session e cabin = others-cond (nat_eq session 0) _ _ tt (tt, tt)

with-others : (fell : Bool) (session : ℕ) (e : Entering) (cabin : Cabin) → AreOthers (notes_with fell session e cabin)
with-others false session e cabin = others-append (moving_notes e cabin) (unclosed_notes session e cabin) (moving-others e cabin) (unclosed-others session e cabin)
with-others true session e cabin = others-append (moving_notes e cabin) (fault_of e cabin ∷ unclosed_notes session e cabin) (moving-others e cabin) (tt, unclosed-others session e cabin)

-- ---- an insertion, and others behind it

inserted-moment : (insertion : Insertion) (notes : List UnitNote) → AreOthers notes → (x c : List ℕ) → AreBeingDone IsOnUnit IsComing (Inserts insertion ∷ notes) x c → Around (MayBeAdded insertion_ring (insertion_bytes insertion)) x c
inserted-moment insertion notes all x c (inl moment) = (x, c, same-rings x, inr moment, same-rings c)
inserted-moment insertion notes all x c (inr (z, done, rest)) = (x, z, same-rings x, inr (added-moment insertion_ring (insertion_bytes insertion) x z done), others-moment notes all z c rest)

-- ---- of a unit

module _ (unit unit_after : State) (before : IsCoherent unit) (behind : IsCoherent unit_after) (failed : Bool) (tells : is_some unit.image ≡ true) (cause : HasCause unit unit_after failed) where
  -- what was done to the one image that a unit has which did not fail
  done-one : (notes : List UnitNote) → HasNoted IsOnUnit IsComing notes failed unit unit_after → failed ≡ false → (y : List ℕ) → unit_after.may_leave y → (x : List ℕ) × (unit.image ≡ Some x) × AreDone IsOnUnit notes x y
  done-one notes noted fine y left =
      let x = told-one unit.image tells in
      let works : unit_after.works ≡ true = cause.works ∙ ap not fine in
      let is : unit_after.image ≡ Some y = behind.only y works left in
      (x.0, x.1, at_image (AreDone IsOnUnit notes x.0) is (at_image (λ (l : List ℕ). IfSome unit_after.image (AreDone IsOnUnit notes l)) x.1 (noted.whole fine)))

  others-leave : (notes : List UnitNote) → AreOthers notes → HasNoted IsOnUnit IsComing notes failed unit unit_after → LeavesRings unit unit_after
  others-leave notes all noted y left = by failed refl
    where
      by : (b : Bool) → failed ≡ b → (x : List ℕ) × unit.may_leave x × HasSameRings x y
      by false fine = let one = done-one notes noted fine y left in (one.0, before.is_left one.0 one.1, others-done notes all one.0 y one.2)
      by true cut = ⊎_elim (λ was. (y, was, same-rings y)) (λ moment. (moment.0, before.is_left moment.0 moment.1, others-moment notes all moment.0 y moment.2)) (noted.moments.now y left)

  inserted-maybe : (insertion : Insertion) (notes : List UnitNote) → AreOthers notes → HasNoted IsOnUnit IsComing (Inserts insertion ∷ notes) failed unit unit_after → WritesImages (MayBeAdded insertion_ring (insertion_bytes insertion)) unit unit_after
  inserted-maybe insertion notes all noted y left = ⊎_elim
      (λ was. (y, was, (y, y, same-rings y, inl refl, same-rings y)))
      (λ moment. (moment.0, before.is_left moment.0 moment.1, inserted-moment insertion notes all moment.0 y moment.2))
      (noted.moments.now y left)

  inserted-at : (index : ℕ) (insertion : Insertion) (notes : List UnitNote) → AreOthers notes → IsPlace index unit.image → HasNoted IsOnUnit IsComing (Inserts insertion ∷ notes) failed unit unit_after → InsertsAt failed index insertion unit unit_after
  inserted-at index insertion notes all place noted = by failed refl
    where
      by : (b : Bool) → failed ≡ b → InsertsAt b index insertion unit unit_after
      by false fine = λ y left.
          let one = done-one (Inserts insertion ∷ notes) noted fine y left in
          let at = at_image (λ (x : List ℕ). PointsInside insertion_ring x → index ≡ taken insertion_ring x) one.1 place.1 in
          (one.0, before.is_left one.0 one.1, (one.0, one.2.0, same-rings one.0, (one.2.1, at), others-done notes all one.2.0 y one.2.2))
      by true cut = inserted-maybe insertion notes all noted

  pub by-way : (card card_after : State) (e : Entering) (k v : Keeper) (noted noted_after : ℕ) (o p : Outcome) (way : Way) → HasEntered e failed k v noted noted_after o p unit unit_after card card_after way → WritesBy (ending_of way) e failed unit unit_after
  by-way card card_after e k v noted noted_after o p Unread h = others-leave (fault_of e (measured Unread e k).cabin ∷ []) (tt, tt) h.notes
  by-way card card_after e k v noted noted_after o p (Unsized field) h = others-leave _ (tt, tt) h.notes
  by-way card card_after e k v noted noted_after o p (Judged app (Unfit fid place)) h = others-leave _ (tt, tt) h.notes
  by-way card card_after e k v noted noted_after o p (Judged app (Ahead stored)) h = others-leave _ (tt, tt) h.notes
  by-way card card_after e k v noted noted_after o p (Judged app Fell) h = others-leave _ (tt, tt) h.notes
  by-way card card_after e k v noted noted_after o p (Judged app Unasked) h = others-leave [] tt h.notes
  by-way card card_after e k v noted noted_after o p (Judged app (Unnoted entered clock)) h = inserted-maybe (insertion_of entered.look e) [] tt h.notes
  by-way card card_after e k v noted noted_after o p (Judged app (Seated entered clock entry)) h =
      inserted-at entry (insertion_of entered.look e) (row_of entered.look e (measured (Judged app (Seated entered clock entry)) e k).cabin ∷ notes_with false entered.look.session e (seated entered.look entered.session entered.row entry noted e (measured (Judged app (Seated entered clock entry)) e k).cabin))
      (tt, with-others false entered.look.session e (seated entered.look entered.session entered.row entry noted e (measured (Judged app (Seated entered clock entry)) e k).cabin)) h.is.0 h.notes
  by-way card card_after e k v noted noted_after o p (Judged app (Lost entered clock entry)) h =
      inserted-at entry (insertion_of entered.look e) (row_of entered.look e (measured (Judged app (Lost entered clock entry)) e k).cabin ∷ notes_with true entered.look.session e (seated entered.look entered.session entered.row entry noted e (measured (Judged app (Lost entered clock entry)) e k).cabin))
      (tt, with-others true entered.look.session e (seated entered.look entered.session entered.row entry noted e (measured (Judged app (Lost entered clock entry)) e k).cabin)) h.is.0 h.notes

pub accept-writes : (unit unit_after card card_after : State) → IsCoherent unit → IsCoherent unit_after → AcceptWrites unit unit_after card card_after
accept-writes unit unit_after card card_after before behind e failed k v noted noted_after o p way tells cause h = by-way unit unit_after before behind failed tells cause card card_after e k v noted noted_after o p way h

-- ---- behind calls that leave the rings

inserts-behind : (failed : Bool) (index : ℕ) (insertion : Insertion) (U V W : State) → LeavesRings U V → InsertsAt failed index insertion V W → InsertsAt failed index insertion U W
inserts-behind false index insertion U V W a b = leaves-writes _ U V W a b
inserts-behind true index insertion U V W a b = leaves-writes _ U V W a b

pub writes-behind : (ending : Ending) (e : Entering) (failed : Bool) (U V W : State) → LeavesRings U V → WritesBy ending e failed V W → WritesBy ending e failed U W
writes-behind (Unfit fid place) e failed U V W a b = rings-then U V W a b
writes-behind (Ahead stored) e failed U V W a b = rings-then U V W a b
writes-behind Fell e failed U V W a b = rings-then U V W a b
writes-behind Unasked e failed U V W a b = rings-then U V W a b
writes-behind (Unnoted entered clock) e failed U V W a b = leaves-writes _ U V W a b
writes-behind (Seated entered clock entry) e failed U V W a b = inserts-behind failed entry (insertion_of entered.look e) U V W a b
writes-behind (Lost entered clock entry) e failed U V W a b = inserts-behind failed entry (insertion_of entered.look e) U V W a b
