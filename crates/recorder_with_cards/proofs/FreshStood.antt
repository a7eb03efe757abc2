-- Behind seconds in which no call failed on a card, nor on the unit, it shows exactly its stays, and that is what stands
-- of it.
use Rattle.std.proofs.Common.{◌≡◌, ◌∙◌, ◌⊎◌, inl, inr, ⊎_elim, ℕ, true, false, Option, Some, None, is_some, List, [], refl, sym, subst, append-nil}
use Rattle.trace_model.specs.declared.Card.{Card}
use Rattle.trace_model.specs.declared.Card.TheVariants.{A, B}
use Rattle.trace_model.specs.Trace.{TraceSecond}
use Rattle.tach_media.specs.Medium.{State, IsCoherent}
use Rattle.log_model.specs.Causes.{device_of}
use Rattle.unit_minutes.specs.gated_ring.Ring.{PointsInside}
use Rattle.device_calls.specs.card_image.Fields.{vehicle_ring}
use Rattle.device_calls.specs.card_image.Own.{own_sizes, IsOwnValid}
use Rattle.device_calls.specs.card_session.Sessions.{book_of}
use Rattle.device_calls.specs.safety_model.Recording.{Recording, card_image}
use Rattle.device_calls.specs.safety_model.Safe.{Devices, card_of}
use Rattle.run_minutes.specs.run_promise.Ends.{recording_by}
use Rattle.run_minutes.specs.run_promise.Found.{found_of}
use Rattle.run_minutes.specs.run_promise.Origin.{Origin}
use Rattle.device_calls.proofs.card_string.MadeSince.{since_same}
use Rattle.run_outcome.specs.declared.outcome.Outcome.{Outcome}
use Rattle.run_acts.specs.run_crew.Cabin.{CabinIsSound}
use Rattle.run_acts.specs.run_crew.Cards.{session_of}
use Rattle.run_acts.specs.run_note_record.Moved.{IsPutIn, moves_in}
use Rattle.run_acts.specs.run_note_record.OnCards.{GoesByReadings}
use Rattle.run_acts.specs.run_note_record.Ringed.{notes_in}
use Rattle.run_acts.specs.declared.run.Run.{Run}
use Rattle.run_acts.specs.declared.run.Power.TheVariants.{Lit}
use Rattle.run_acts.specs.Recording.{log_of, RunRecorded}
use Rattle.run_acts.specs.RunCards.{vehicle_in}
use Rattle.run_acts.specs.RunRinged.{RunRinged}
use Rattle.run_acts.specs.Closings.{spells_of}
use Rattle.run_acts.specs.Truths.{truths_of, marked}
use Rattle.run_acts.specs.Stays.{AllStay, AreJudged, HasStays, ShowsStays, Whose, Both, Only, covers, AreKnown, judged_in, judged_told, sits_in, spells, start_shown}
use Rattle.run_acts.specs.Stood.{HasExactStays, ShowsItsStays, recording_to, StandsStill, IsCalm, HaveStood}
use Rattle.run_acts.proofs.AllStay.{all-of}
use Rattle.run_acts.proofs.SeatsThen.{same-itself}
use Rattle.run_acts.proofs.ToldLines.{OfOne, told-of}
use Rattle.recorder_with_cards.proofs.AtEnd.{noted-at-end, sits-at-end, words-so, odometers-so}
use Rattle.run_acts.specs.Stood.{HaveStoodBehind}
use Rattle.run_acts.proofs.Stood.{tells-self, stood-begins}
use Rattle.device_calls.specs.card_image.Own.{own_bad_file}
use Rattle.device_calls.proofs.Passed.{valid-passes, pointer-passes}

-- the pointer of the vehicle entries of a valid card is an index
pub own-vehicles : (x : List ℕ) → IsOwnValid x → PointsInside (vehicle_ring (own_sizes x)) x
unfolding own_bad_file
own-vehicles x valid = pointer-passes (vehicle_ring (own_sizes x)) x (valid-passes (own_sizes x) x valid).vehicles

-- only a valid card has some of the one, and only a valid one some of the other
pub only-both : {P Q R S : Type 0} → P ⊎ R → Q ⊎ R → (R → S) → (P × Q) ⊎ S
only-both (inl p) (inl q) same = inl (p, q)
only-both (inl p) (inr valid) same = inr (same valid)
only-both (inr valid) q same = inr (same valid)

-- the image that a medium tells
told : (X : State) → is_some X.image ≡ true → (x : List ℕ) × (X.image ≡ Some x)
told X tells = by X.image refl tells
  where
    by : (o : Option (List ℕ)) → X.image ≡ o → is_some o ≡ true → (x : List ℕ) × (X.image ≡ Some x)
    by None is none = absurd (let wrong : false ≡ true = none in cc)
    by (Some x) is some = (x, is)

module _ (o : Origin) (done : List TraceSecond) (run : Run) (out : Outcome) (d : Devices) (h : RunRinged o done run out d) (sits : run.power ≡ Lit → (low : ℕ) × CabinIsSound low None run.keeper.cabin) (whole : (c : Card) → IsCoherent (card_of d c)) where
  abbrev r : Recording
  r = recording_by o done (log_of out)

  abbrev e : RunRecorded o done run out d
  e = h.evented.recorded

  images : (c : Card) → card_image r c ≡ card_image o.recording c
  images A = refl
  images B = refl

  of-image : (c : Card) → (found_of o.found c).image ≡ card_image r c
  of-image c = e.origin.image c ∙ sym (images c)

  stays-at : AllStay o (marked out.marks.items (truths_of o (log_of out) done)) 0 (log_of out) (notes_in (log_of out) done) (vehicle_in o) run.keeper.cabin d
  stays-at = all-of o (marked out.marks.items (truths_of o (log_of out) done)) 0 (log_of out) (notes_in (log_of out) done) run.keeper.memory.registration (vehicle_in o) run.keeper.cabin d (sym e.vehicle) e.stay

  module _ (whose : Whose) (known : AreKnown whose o (log_of out) d) (c : Card) (mine : covers whose c ≡ true) (valid : IsOwnValid (card_image o.recording c)) where
    here : IsOwnValid (found_of o.found c).image
    here = subst IsOwnValid (sym (e.origin.image c)) valid

    lines : OfOne (marked out.marks.items (truths_of o (log_of out) done)) c (judged_told (log_of out)) (judged_in ((stays-at whose known).stays c) ((stays-at whose known).since c))
    lines =
        let all = stays-at whose known in
        told-of whose (marked out.marks.items (truths_of o (log_of out) done)) c (judged_told (log_of out)) (λ (k : Card). judged_in (all.stays k) (all.since k)) all.entered mine all.judged

    own : HasStays 0 (found_of o.found c) (vehicle_in o) (spells_of c (notes_in (log_of out) done)) (sits_in run.keeper.cabin.slots.seats c) ((stays-at whose known).stays c) (session_of run.keeper.cabin.cards c) (card_of d c)
    own = (stays-at whose known).each c mine here

    shows : ShowsStays (vehicle_in o) (card_image r c) ((stays-at whose known).stays c) (card_of d c)
    shows = subst (λ (i : List ℕ). ShowsStays (vehicle_in o) i ((stays-at whose known).stays c) (card_of d c)) (of-image c) own.shows

    at : (x : List ℕ) × ((card_of d c).image ≡ Some x)
    at = told (card_of d c) (e.recorded.there.cards c)

    left : (card_of d c).may_leave at.0
    left = (whole c).is_left at.0 at.1

    exact : HasExactStays (recording_to r done (log_of out)) c (λ x. x ≡ at.0)
    exact =
        let all = stays-at whose known in
        record {
          stays = all.stays c;
          since = all.since c;
          others = lines.others;
          only = only-both (all.only c mine) (all.lone c mine) (λ v. subst IsOwnValid (as-of c) v);
          judged = lines.merged;
          entered = all.entered c mine;
          theirs = lines.theirs;
          verdicts = verdicts-as c (λ v. all.verdicts c mine (subst IsOwnValid (sym (as-of c)) v));
          shows = shows-as c (λ x is. subst (λ (z : List ℕ). ShowsItsStays r c (all.stays c) z) (sym is) (shows at.0 left));
          closed = closed-as c (sym (noted-at-end 0 (session_of run.keeper.cabin.cards c) (sits_in run.keeper.cabin.slots.seats c) (spells (all.stays c)) (sits-at-end o done run out d e sits c)) ∙ own.spell);
          words = words-so (recording_to r done (log_of out)) (all.stays c) (all.hold c mine).0;
          odometers = odometers-so (recording_to r done (log_of out)) (all.stays c) (all.hold c mine).0;
        }
      where
        as-of : (k : Card) → (found_of o.found k).image ≡ card_image (recording_to r done (log_of out)) k
        as-of A = of-image A
        as-of B = of-image B

        verdicts-as : (k : Card) → (IsOwnValid (card_image (recording_to r done (log_of out)) k) → AreJudged (vehicle_in o) (own_sizes (found_of o.found k).image).activity ((stays-at whose known).stays k) ((stays-at whose known).since k) (start_shown (found_of o.found k).image))
            → IsOwnValid (card_image (recording_to r done (log_of out)) k) → AreJudged (vehicle_in o) (own_sizes (card_image (recording_to r done (log_of out)) k)).activity ((stays-at whose known).stays k) ((stays-at whose known).since k) (start_shown (card_image (recording_to r done (log_of out)) k))
        verdicts-as k h v = subst (λ (i : List ℕ). AreJudged (vehicle_in o) (own_sizes i).activity ((stays-at whose known).stays k) ((stays-at whose known).since k) (start_shown i)) (as-of k) (h v)

        shows-as : (k : Card) → ((x : List ℕ) → x ≡ at.0 → ShowsItsStays r k ((stays-at whose known).stays k) x) → IsOwnValid (card_image (recording_to r done (log_of out)) k) → (x : List ℕ) → x ≡ at.0 → ShowsItsStays (recording_to r done (log_of out)) k ((stays-at whose known).stays k) x
        shows-as A h v x is = h x is
        shows-as B h v x is = h x is

        closed-as : (k : Card) → (spells ((stays-at whose known).stays k) ≡ spells_of k (notes_in (log_of out) done)) → IsOwnValid (card_image (recording_to r done (log_of out)) k) → spells ((stays-at whose known).stays k) ≡ spells_of k (notes_in (log_of out) done)
        closed-as k h v = h

    points : (x : List ℕ) → (card_of d c).may_leave x → PointsInside (vehicle_ring (own_sizes (card_image r c))) x
    points x there =
        let goes : GoesByReadings h.spans (IsPutIn (moves_in (log_of out) done) c) (card_image r c) (card_image r c) x = subst (λ (i : List ℕ). GoesByReadings h.spans (IsPutIn (moves_in (log_of out) done) c) i i x) (sym (images c)) (h.ringed.ringed.vehicles c valid x there) in
        (goes (own-vehicles (card_image r c) (subst IsOwnValid (sym (images c)) valid))).0

    -- each image has the same days and vehicle entries
    alike : (x : List ℕ) → (card_of d c).may_leave x → book_of (own_sizes (card_image r c)) x ≡ book_of (own_sizes (card_image r c)) at.0
    alike x there = (shows x there).0 ∙ sym (shows at.0 left).0

    stands-now : StandsStill r c (found_of o.found c).began (o.breakdowns (device_of c)) (card_of d c)
    stands-now = (
      record {
        front = done;
        rest = [];
        are = sym (append-nil done);
        told = log_of out;
        tells = (tells-self (log_of out) done).same;
        image = at.0;
        exact = exact;
        was = (whole c).counts_now (found_of o.found c).began at.0 (e.recorded.there.clocks c) left;
        stands = λ x there. since_same (own_sizes (card_image r c)) _ at.0 x (alike x there);
        until = inl refl;
      },
      points,
    )

  -- WHAT STANDS BEHIND THEM, of both cards, or of this one
  pub fresh-stood : (c : Card) → IsOwnValid (card_image o.recording c) → IsCalm o (log_of out) c d → StandsStill r c (found_of o.found c).began (o.breakdowns (device_of c)) (card_of d c)
  fresh-stood c valid calm = ⊎_elim (λ none. stands-now Both none c refl valid) (λ unhurt. stands-now (Only c) unhurt c (same-itself c) valid) calm

-- A SECOND BEGINS: what stood, or what is exact now
pub begins-stood : (o : Origin) (done : List TraceSecond) (run : Run) (out : Outcome) (d : Devices) → RunRinged o done run out d → (run.power ≡ Lit → (low : ℕ) × CabinIsSound low None run.keeper.cabin) → ((c : Card) → IsCoherent (card_of d c)) → HaveStoodBehind o done (log_of out) d → HaveStood o done (log_of out) d
begins-stood o done run out d h sits whole past = stood-begins o done (log_of out) d past (fresh-stood o done run out d h sits whole)
