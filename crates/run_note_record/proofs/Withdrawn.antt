-- A withdrawal is noted in the entry of the card's last insertion.
use Rattle.std.proofs.Common.{◌≡◌, ◌≢◌, ◌⊎◌, inl, inr, ⊎_elim, ℕ, suc, ◌+◌, ◌<◌, ◌≤◌, ◌^◌, Bool, true, false, cond, nat_eq, ◌||◌, Option, Some, None, IfSome, List, [], ◌∷◌, ◌++◌, length, refl, ap, sym, subst, ◌∙◌, arith, append_assoc, append-nil}
use Rattle.std.specs.List.{list_any}
use Rattle.std.proofs.lemmas.Bool.{eqb-true, eqb-false}
use Rattle.std.proofs.lemmas.List.{length-map, length-append}
use Rattle.tach_media.specs.card_layout.Images.{bytes_at, put, big_number}
use Rattle.tach_media.specs.card_layout.Fields.{field_at, number_in}
use Rattle.tach_media.proofs.card_layout.Images.{put_outside}
use Rattle.tach_media.proofs.card_layout.Fields.{field_put, field_stays}
use Rattle.tach_media.proofs.card_layout.Numbers.{big_number-big_bytes}
use Rattle.run_devices.specs.tacho_types.declared.numbers.TimeReal.{TimeReal}
use Rattle.run_devices.specs.tacho_types.declared.numbers.Odometer.{Odometer}
use Rattle.run_devices.specs.tacho_types.Numbers.{time_bytes, odometer_bytes}
use Rattle.run_devices.specs.trace_model.declared.Card.{Card}
use Rattle.run_devices.specs.trace_model.declared.Card.TheVariants.{A, B}
use Rattle.run_events.specs.gated_ring.Ring.{PointsInside, size_of, place_of, pointer, next, is_there, indices, ring_list, entry_at, taken}
use Rattle.run_events.specs.gated_ring.Change.{SameOthers, IsSet}
use Rattle.run_events.proofs.gated_ring.Elsewhere.{ring_outside, ring_elsewhere, taken_elsewhere}
use Rattle.run_events.proofs.gated_ring.Listing.{few_indices}
use Rattle.run_events.specs.message_model.Records.{insertion_widths, insertion_ring, unit_place_ring}
use Rattle.run_events.specs.unit_notes.Noting.{out_place, out_odometer_place, with_withdrawal, IsWithdrawn}
use Rattle.run_devices.specs.log_model.Log.{RunLog}
use Rattle.run_devices.specs.log_model.Slots.{same_card}
use Rattle.run_devices.specs.note_model.Done.{has_failed_in}
use Rattle.run_devices.specs.note_model.Odometer.{SpanFrom, odometer_at}
use Rattle.run_devices.specs.note_model.Noted.{Withdrawal, InsertionNote, PlaceNote, Note, Withdraws, with_withdrawal as note_withdrawal, insertions_of, places_of}
use Rattle.run_devices.specs.note_model.Rings.{Holder, Stand, AreNoFewer, TellsWithdrawal, IsInsertion}
use Rattle.run_devices.specs.safety_model.Safe.{Devices}
use Rattle.run_events.specs.run_rings.Carried.{RingKeeps}
use Rattle.run_events.proofs.run_rings.Carried.{same-parts, carries-same, carries-changed, carries-gone, entry-was}
use Rattle.run_events.proofs.run_rings.Indices.{index-alone, index-itself}
use Rattle.run_events.proofs.run_rings.Standing.{stand-append, withdrawal-of-last}
use Rattle.run_events.proofs.run_rings.Few.{RingStays, ring-same, ring-stays, few-as, few-changed}
use Rattle.run_note_record.specs.Beside.{HaveLeftMore}
use Rattle.run_note_record.specs.Ringed.{holder_in, TellsIn, Each, HasSameRings, IsInsertionIn, IsPlaceIn, sure_insertion, sure_place, ShowsNotes, Seating, LiesBehind, StandsAt, IsSeated, Ringed, IsWithdrawnAt, MayBeWithdrawn, Since}
use Rattle.run_note_record.specs.Moved.{IsPutIn}
use Rattle.run_note_record.specs.OnCards.{CardsGo}
use Rattle.run_note_record.specs.Sessions.{Ends, Shuts}
use Rattle.run_note_record.proofs.Sessions.{sessions-withdrawn, shuts-none, ends-put}
use Rattle.run_note_record.proofs.OnCards.{places-beside, vehicles-go}
use Rattle.run_note_record.proofs.Stands.{each-stand, each-long, each-append, each-split, insertions-more, places-more}
use Rattle.run_note_record.proofs.Rings.{HasSameTurn, insertion_shape, place_shape, Writes, seated-as, go-on}

-- ---- the entry

module _ (log : RunLog) (spans : List SpanFrom) (holder : Card → Holder) (Tells : Card → List ℕ → ℕ → Type 0) (n : InsertionNote) (e : List ℕ) (is : IsInsertion log spans holder Tells n e) (u : ℕ) (time : TimeReal) (odometer : Odometer) (second : time.0 ≡ u)
    (stood : odometer.0 ≡ odometer_at u spans) (time_fits : time.0 < 256 ^ 4) (odometer_fits : odometer.0 < 256 ^ 3) where
  abbrev timed : List ℕ
  timed = put out_place (time_bytes time) e

  timed-size : length timed ≡ 129
  timed-size = let inside = is.size in let same = put_outside out_place (time_bytes time) e (omega (arith, inside)) in same.same_length ∙ is.size

  both-size : length (with_withdrawal time odometer e) ≡ 129
  both-size = let inside = timed-size in let same = put_outside out_odometer_place (odometer_bytes odometer) timed (omega (arith, inside)) in same.same_length ∙ timed-size

  other-field : (j : ℕ) → j < 12 → j ≢ 7 → j ≢ 8 → field_at insertion_widths j (with_withdrawal time odometer e) ≡ field_at insertion_widths j e
  other-field j below one two =
      field_stays insertion_widths 8 (odometer_bytes odometer) timed (omega arith) refl (let size = timed-size in omega (arith, size)) j below two
      ∙ field_stays insertion_widths 7 (time_bytes time) e (omega arith) refl (let size = is.size in omega (arith, size)) j below one

  other-number : (k : ℕ) (j : ℕ) → j < 12 → j ≢ 7 → j ≢ 8 → big_number k (field_at insertion_widths j (with_withdrawal time odometer e)) ≡ big_number k (field_at insertion_widths j e)
  other-number k j below one two = ap (big_number k) (other-field j below one two)

  time-field : field_at insertion_widths 7 (with_withdrawal time odometer e) ≡ time_bytes time
  time-field =
      field_stays insertion_widths 8 (odometer_bytes odometer) timed (omega arith) refl (let size = timed-size in omega (arith, size)) 7 (omega arith) (λ never. absurd (omega (arith, never)))
      ∙ field_put insertion_widths 7 (time_bytes time) e (omega arith) refl (let size = is.size in omega (arith, size))

  odometer-field : field_at insertion_widths 8 (with_withdrawal time odometer e) ≡ odometer_bytes odometer
  odometer-field = field_put insertion_widths 8 (odometer_bytes odometer) timed (omega arith) refl (let size = timed-size in omega (arith, size))

  pub insertion-withdrawn : IsInsertion log spans holder Tells (record n { withdrawn = Some u }) (with_withdrawal time odometer e)
  insertion-withdrawn = record {
    size = both-size;
    surname = other-field 0 (omega arith) (λ never. absurd (omega (arith, never))) (λ never. absurd (omega (arith, never))) ∙ is.surname;
    first_names = other-field 1 (omega arith) (λ never. absurd (omega (arith, never))) (λ never. absurd (omega (arith, never))) ∙ is.first_names;
    number = other-field 2 (omega arith) (λ never. absurd (omega (arith, never))) (λ never. absurd (omega (arith, never))) ∙ is.number;
    expiry = other-field 3 (omega arith) (λ never. absurd (omega (arith, never))) (λ never. absurd (omega (arith, never))) ∙ is.expiry;
    time = other-number 4 4 (omega arith) (λ never. absurd (omega (arith, never))) (λ never. absurd (omega (arith, never))) ∙ is.time;
    odometer = other-number 3 5 (omega arith) (λ never. absurd (omega (arith, never))) (λ never. absurd (omega (arith, never))) ∙ is.odometer;
    slot = other-number 1 6 (omega arith) (λ never. absurd (omega (arith, never))) (λ never. absurd (omega (arith, never))) ∙ is.slot;
    withdrawal = inl (
      ap (big_number 4) time-field ∙ big_number-big_bytes 4 time.0 time_fits ∙ second,
      ap (big_number 3) odometer-field ∙ big_number-big_bytes 3 odometer.0 odometer_fits ∙ stood,
    );
    previous = subst (λ (f : List ℕ). Tells n.accepted.card f (number_in insertion_widths 10 (with_withdrawal time odometer e))) (sym (other-field 9 (omega arith) (λ never. absurd (omega (arith, never))) (λ never. absurd (omega (arith, never)))))
        (subst (λ (t : ℕ). Tells n.accepted.card (field_at insertion_widths 9 e) t) (sym (other-number 4 10 (omega arith) (λ never. absurd (omega (arith, never))) (λ never. absurd (omega (arith, never))))) is.previous);
    by_hand = other-number 1 11 (omega arith) (λ never. absurd (omega (arith, never))) (λ never. absurd (omega (arith, never))) ∙ is.by_hand;
  }

  -- nothing was written yet, or the time alone, as the unit failed
  untold : n.withdrawn ≡ None → (number_in insertion_widths 7 e ≡ 0) × (number_in insertion_widths 8 e ≡ 0)
  untold none = subst (λ (w : Option ℕ). TellsWithdrawal log spans holder w (number_in insertion_widths 7 e) (number_in insertion_widths 8 e)) none is.withdrawal

  pub insertion-unwritten : n.withdrawn ≡ None → has_failed_in log u ≡ true → IsInsertion log spans holder Tells (record n { withdrawn = Some u }) e
  insertion-unwritten none has = record {
    size = is.size;
    surname = is.surname;
    first_names = is.first_names;
    number = is.number;
    expiry = is.expiry;
    time = is.time;
    odometer = is.odometer;
    slot = is.slot;
    withdrawal = inr (has, inl (untold none).0, (untold none).1);
    previous = is.previous;
    by_hand = is.by_hand;
  }

  timed-field : (j : ℕ) → j < 12 → j ≢ 7 → field_at insertion_widths j timed ≡ field_at insertion_widths j e
  timed-field j below one = field_stays insertion_widths 7 (time_bytes time) e (omega arith) refl (let size = is.size in omega (arith, size)) j below one

  timed-number : (k j : ℕ) → j < 12 → j ≢ 7 → big_number k (field_at insertion_widths j timed) ≡ big_number k (field_at insertion_widths j e)
  timed-number k j below one = ap (big_number k) (timed-field j below one)

  timed-is : field_at insertion_widths 7 timed ≡ time_bytes time
  timed-is = field_put insertion_widths 7 (time_bytes time) e (omega arith) refl (let size = is.size in omega (arith, size))

  pub insertion-timed : n.withdrawn ≡ None → has_failed_in log u ≡ true → IsInsertion log spans holder Tells (record n { withdrawn = Some u }) (put out_place (time_bytes time) e)
  insertion-timed none has = record {
    size = timed-size;
    surname = timed-field 0 (omega arith) (λ never. absurd (omega (arith, never))) ∙ is.surname;
    first_names = timed-field 1 (omega arith) (λ never. absurd (omega (arith, never))) ∙ is.first_names;
    number = timed-field 2 (omega arith) (λ never. absurd (omega (arith, never))) ∙ is.number;
    expiry = timed-field 3 (omega arith) (λ never. absurd (omega (arith, never))) ∙ is.expiry;
    time = timed-number 4 4 (omega arith) (λ never. absurd (omega (arith, never))) ∙ is.time;
    odometer = timed-number 3 5 (omega arith) (λ never. absurd (omega (arith, never))) ∙ is.odometer;
    slot = timed-number 1 6 (omega arith) (λ never. absurd (omega (arith, never))) ∙ is.slot;
    withdrawal = inr (
      has,
      inr (ap (big_number 4) timed-is ∙ big_number-big_bytes 4 time.0 time_fits ∙ second),
      timed-number 3 8 (omega arith) (λ never. absurd (omega (arith, never))) ∙ (untold none).1,
    );
    previous = subst (λ (f : List ℕ). Tells n.accepted.card f (number_in insertion_widths 10 timed)) (sym (timed-field 9 (omega arith) (λ never. absurd (omega (arith, never)))))
        (subst (λ (t : ℕ). Tells n.accepted.card (field_at insertion_widths 9 e) t) (sym (timed-number 4 10 (omega arith) (λ never. absurd (omega (arith, never))))) is.previous);
    by_hand = timed-number 1 11 (omega arith) (λ never. absurd (omega (arith, never))) ∙ is.by_hand;
  }

-- ---- one list, split at two of its elements

splits : (older1 : List InsertionNote) (own1 : InsertionNote) (newer1 older2 : List InsertionNote) (own2 : InsertionNote) (newer2 : List InsertionNote) → older1 ++ own1 ∷ newer1 ≡ older2 ++ own2 ∷ newer2 →
    ((mid : List InsertionNote) × (older2 ≡ older1 ++ own1 ∷ mid) × (newer1 ≡ mid ++ own2 ∷ newer2))
    ⊎ ((own1 ≡ own2) ⊎ ((mid : List InsertionNote) × (older1 ≡ older2 ++ own2 ∷ mid) × (newer2 ≡ mid ++ own1 ∷ newer1)))
splits [] own1 newer1 [] own2 newer2 is = let one : own1 ≡ own2 = cc in inr (inl one)
splits [] own1 newer1 (x ∷ older2) own2 newer2 is =
    let one : own1 ≡ x = cc in
    let rest : newer1 ≡ older2 ++ own2 ∷ newer2 = cc in
    inl (older2, λ i. sym one i ∷ older2, rest)
splits (x ∷ older1) own1 newer1 [] own2 newer2 is =
    let one : x ≡ own2 = cc in
    let rest : older1 ++ own1 ∷ newer1 ≡ newer2 = cc in
    inr (inr (older1, λ i. one i ∷ older1, sym rest))
splits (x ∷ older1) own1 newer1 (y ∷ older2) own2 newer2 is =
    let one : x ≡ y = cc in
    let rest : older1 ++ own1 ∷ newer1 ≡ older2 ++ own2 ∷ newer2 = cc in
    ⊎_elim
    (λ first. inl (first.0, (λ i. sym one i ∷ first.1 i), first.2))
    (λ others. ⊎_elim (λ same. inr (inl same)) (λ last. inr (inr (last.0, (λ i. one i ∷ last.1 i), last.2))) others)
    (splits older1 own1 newer1 older2 own2 newer2 rest)

clash : (a w c : Card) → same_card a w ≡ true → same_card a c ≡ true → same_card w c ≡ false → ⊥
clash A A A one two none = let both : true ≡ false = none in cc
clash A A B one two none = let both : false ≡ true = two in cc
clash A B A one two none = let both : false ≡ true = one in cc
clash A B B one two none = let both : false ≡ true = one in cc
clash B A A one two none = let both : false ≡ true = one in cc
clash B A B one two none = let both : false ≡ true = one in cc
clash B B A one two none = let both : false ≡ true = two in cc
clash B B B one two none = let both : true ≡ false = none in cc

any-same : (c : Card) (mid : List InsertionNote) (own : InsertionNote) (w : Option ℕ) (newer : List InsertionNote) →
    list_any (λ (j : InsertionNote). same_card j.accepted.card c) (mid ++ record own { withdrawn = w } ∷ newer) ≡ list_any (λ (j : InsertionNote). same_card j.accepted.card c) (mid ++ own ∷ newer)
any-same c [] own w newer = refl
any-same c (j ∷ mid) own w newer = ap (λ (b : Bool). same_card j.accepted.card c || b) (any-same c mid own w newer)

-- ---- the cards that stay

module _ (sure : InsertionNote → Bool) (Is : InsertionNote → List ℕ → Type 0) (card : Card) (s : Seating) (ns : List InsertionNote) (ms : List (List ℕ)) (x y : List ℕ) (sits : IsSeated sure Is card s ns ms x) (u : ℕ) (bytes : List ℕ) (is : Is (record sits.own { withdrawn = Some u }) bytes)
    (same : HasSameTurn x y) where
  -- notes and entries behind it
  abbrev pub notes-now : List InsertionNote
  notes-now = sits.older ++ record sits.own { withdrawn = Some u } ∷ sits.newer

  abbrev pub entries-now : List (List ℕ)
  entries-now = sits.olders ++ bytes ∷ sits.newers

  pub stands-now : Stand sure Is notes-now entries-now
  stands-now = stand-append sure Is sits.older (record sits.own { withdrawn = Some u } ∷ sits.newer) sits.olders (bytes ∷ sits.newers) sits.stand_before (inl (bytes, sits.newers, refl, is, each-stand sure Is sits.newer sits.newers sits.each_behind))

  pub other-stays : (c : Card) → same_card card c ≡ false → (q : Option Seating) → IfSome q (λ t. IsSeated sure Is c t ns ms x) → IfSome q (λ t. IsSeated sure Is c t notes-now entries-now y)
  other-stays c apart None none = tt
  other-stays c apart (Some t) at = ⊎_elim
      (λ first.
      let newer = each-split Is first.0 at.own at.newer sits.newers (subst (λ (l : List InsertionNote). Each Is l sits.newers) first.2 sits.each_behind) in
      record {
        older = sits.older ++ record sits.own { withdrawn = Some u } ∷ first.0;
        own = at.own;
        newer = at.newer;
        notes_are = ap (λ (l : List InsertionNote). sits.older ++ record sits.own { withdrawn = Some u } ∷ l) first.2 ∙ sym (append_assoc sits.older (record sits.own { withdrawn = Some u } ∷ first.0) (at.own ∷ at.newer));
        card_is = at.card_is;
        last = at.last;
        stays = at.stays;
        olders = sits.olders ++ bytes ∷ newer.0;
        entry = newer.1;
        newers = newer.2;
        more_are = ap (λ (l : List (List ℕ)). sits.olders ++ bytes ∷ l) newer.3 ∙ sym (append_assoc sits.olders (bytes ∷ newer.0) (newer.1 ∷ newer.2));
        stand_before = stand-append sure Is sits.older (record sits.own { withdrawn = Some u } ∷ first.0) sits.olders (bytes ∷ newer.0) sits.stand_before (inl (bytes, newer.0, refl, is, each-stand sure Is first.0 newer.0 newer.4));
        is = newer.5;
        each_behind = newer.6;
        behind = each-long Is at.newer newer.2 newer.6 ∙ sym (each-long Is at.newer at.newers at.each_behind) ∙ at.behind;
        there = ⊎_elim (λ here. inl (here.0, here.1, same.0 ∙ here.2, here.3, here.4, subst (LiesBehind insertion_ring t.index (suc t.behind)) (sym same.1) here.5)) (λ gone. inr gone) at.there;
      })
      (λ others. ⊎_elim
      (λ own. absurd (clash sits.own.accepted.card card c sits.card_is (subst (λ (n : InsertionNote). same_card n.accepted.card c ≡ true) (sym own) at.card_is) apart))
      (λ last.
      let newer = each-split Is last.0 sits.own sits.newer at.newers (subst (λ (l : List InsertionNote). Each Is l at.newers) last.2 at.each_behind) in
      let long : length newer.2 ≡ length sits.newers = each-long Is sits.newer newer.2 newer.6 ∙ sym (each-long Is sits.newer sits.newers sits.each_behind) in
      let parts = same-parts (at.olders ++ at.entry ∷ newer.0) sits.olders newer.1 sits.entry newer.2 sits.newers
      (append_assoc at.olders (at.entry ∷ newer.0) (newer.1 ∷ newer.2) ∙ ap (λ (l : List (List ℕ)). at.olders ++ at.entry ∷ l) (sym newer.3) ∙ sym at.more_are ∙ sits.more_are) long in
      record {
        older = at.older;
        own = at.own;
        newer = last.0 ++ record sits.own { withdrawn = Some u } ∷ sits.newer;
        notes_are = ap (λ (l : List InsertionNote). l ++ record sits.own { withdrawn = Some u } ∷ sits.newer) last.1 ∙ append_assoc at.older (at.own ∷ last.0) (record sits.own { withdrawn = Some u } ∷ sits.newer);
        card_is = at.card_is;
        last = any-same c last.0 sits.own (Some u) sits.newer ∙ ap (λ (l : List InsertionNote). list_any (λ (j : InsertionNote). same_card j.accepted.card c) l) (sym last.2) ∙ at.last;
        stays = at.stays;
        olders = at.olders;
        entry = at.entry;
        newers = newer.0 ++ bytes ∷ sits.newers;
        more_are = ap (λ (l : List (List ℕ)). l ++ bytes ∷ sits.newers) (sym parts.0) ∙ append_assoc at.olders (at.entry ∷ newer.0) (bytes ∷ sits.newers);
        stand_before = at.stand_before;
        is = at.is;
        each_behind = each-append Is last.0 (record sits.own { withdrawn = Some u } ∷ sits.newer) newer.0 (bytes ∷ sits.newers) newer.4 (is, sits.each_behind);
        behind =
            (let now : length (newer.0 ++ bytes ∷ sits.newers) ≡ length newer.0 + length (bytes ∷ sits.newers) = length-append newer.0 (bytes ∷ sits.newers) in
            let was : length at.newers ≡ length newer.0 + length (newer.1 ∷ newer.2) = ap (λ (l : List (List ℕ)). length l) newer.3 ∙ length-append newer.0 (newer.1 ∷ newer.2) in
            let so = at.behind in
            omega (arith, now, was, long, so));
        there = ⊎_elim (λ here. inl (here.0, here.1, same.0 ∙ here.2, here.3, here.4, subst (LiesBehind insertion_ring t.index (suc t.behind)) (sym same.1) here.5)) (λ gone. inr gone) at.there;
      })
      others)
      (splits sits.older sits.own sits.newer at.older at.own at.newer (sym sits.notes_are ∙ at.notes_are))

-- as many are not sure
withdrawn-few : (sure : InsertionNote → Bool) (notes older : List InsertionNote) (own out : InsertionNote) (newer : List InsertionNote) → notes ≡ older ++ own ∷ newer → (start x y : List ℕ) → sure own ≡ sure out → RingStays insertion_ring x y →
    AreNoFewer insertion_ring sure notes start x → AreNoFewer insertion_ring sure (older ++ out ∷ newer) start y
withdrawn-few sure notes older own out newer are start x y same stays few =
    few-changed insertion_ring sure older own out newer start x y same stays (subst (λ (l : List InsertionNote). AreNoFewer insertion_ring sure l start x) are few)

-- ---- the ring

-- the next entry comes where it would: pointer and gates are as they were
stays-turned : (i : ℕ) (x y : List ℕ) → PointsInside insertion_ring x → pointer insertion_ring y ≡ pointer insertion_ring x → SameOthers insertion_ring i x y → is_there insertion_ring y i ≡ is_there insertion_ring x i → taken insertion_ring y ≡ taken insertion_ring x
stays-turned i x y points same others own =
    ap (λ (p : ℕ). cond (is_there insertion_ring y p) (next insertion_ring p) p) same
    ∙ ap (λ (b : Bool). cond b (next insertion_ring (pointer insertion_ring x)) (pointer insertion_ring x)) (there (nat_eq (pointer insertion_ring x) i) refl)
  where
    there : (b : Bool) → nat_eq (pointer insertion_ring x) i ≡ b → is_there insertion_ring y (pointer insertion_ring x) ≡ is_there insertion_ring x (pointer insertion_ring x)
    there true is = subst (λ (j : ℕ). is_there insertion_ring y j ≡ is_there insertion_ring x j) (sym (eqb-true (pointer insertion_ring x) i is)) own
    there false is = (others (pointer insertion_ring x) points (eqb-false (pointer insertion_ring x) i is)).1

withdrawn-turn : (i : ℕ) (time : TimeReal) (odometer : Odometer) (x y : List ℕ) → IsWithdrawn i time odometer x y → PointsInside insertion_ring x → taken insertion_ring y ≡ taken insertion_ring x
withdrawn-turn i time odometer x y w points = stays-turned i x y points w.pointer_is w.others w.there

carried : (start x y : List ℕ) (ms : List (List ℕ)) (h : RingKeeps insertion_ring start x ms) (s : Seating) (olders : List (List ℕ)) (entry : List ℕ) (newers : List (List ℕ)) → ms ≡ olders ++ entry ∷ newers → length newers ≡ s.behind →
    StandsAt s x ⊎ (insertion_ring.count ≤ s.behind) → (time : TimeReal) (odometer : Odometer) →
    (IsWithdrawn s.index time odometer x y × (s.behind < insertion_ring.count)) ⊎ (HasSameRings x y × (insertion_ring.count ≤ s.behind)) →
    HasSameTurn x y × RingKeeps insertion_ring start y (olders ++ with_withdrawal time odometer entry ∷ newers)
carried start x y ms h s olders entry newers are behind there time odometer (inl (w, lt)) = ⊎_elim
    (λ at. (
      (w.indices_are h.points, withdrawn-turn s.index time odometer x y w h.points),
      let was = entry-was insertion_ring start x ms h y s.index (with_withdrawal time odometer (entry_at insertion_ring x s.index)) at.0 at.1 w.pointer_is (w.indices_are h.points) at.2 (index-alone insertion_ring x at.0 s.index at.1 at.2) (w.list_is h.points)
          (index-itself s.index) olders entry newers are (behind ∙ sym at.3) in
          subst (λ (l : List ℕ). RingKeeps insertion_ring start y (olders ++ with_withdrawal time odometer l ∷ newers)) (sym was)
          (carries-changed insertion_ring start x ms h y s.index (with_withdrawal time odometer (entry_at insertion_ring x s.index)) at.0 at.1 w.pointer_is (w.indices_are h.points) at.2 (index-alone insertion_ring x at.0 s.index at.1 at.2) (w.list_is h.points)
          (index-itself s.index) olders entry newers are (behind ∙ sym at.3)),
    ))
    (λ gone. absurd (omega (arith, lt, gone)))
    there
carried start x y ms h s olders entry newers are behind there time odometer (inr (same, many)) =
    let rings = ring_elsewhere insertion_ring insertion_shape x y same.insertions h.points in
    let still = carries-same insertion_ring start x ms h insertion_shape y same.insertions in
    let few = few_indices insertion_ring y still.points in
    let list-is : length (ring_list insertion_ring y) ≡ length (indices insertion_ring y) = length-map (indices insertion_ring y) (entry_at insertion_ring y) in
    ((rings.1, taken_elsewhere insertion_ring insertion_shape x y same.insertions h.points), carries-gone insertion_ring start y ms still olders entry (with_withdrawal time odometer entry) newers are (omega (arith, few, list-is, many, behind)))

pub withdrawal-noted : (d e : Devices) (o : Since) (log : RunLog) (spans : List SpanFrom) (notes : List Note) (seats now : Card → Option Seating) → Ringed o log spans notes seats d → HaveLeftMore o.origin d e → (w : Withdrawal) → CardsGo o.origin spans (Ends w.card) d e → (s : Seating) → seats w.card ≡ Some s → s.index < insertion_ring.count →
    (time : TimeReal) (odometer : Odometer) → time.0 ≡ w.second → odometer.0 ≡ odometer_at w.second spans → time.0 < 256 ^ 4 → odometer.0 < 256 ^ 3 → Writes (IsWithdrawnAt s time odometer) d e →
    ((c : Card) → ((same_card w.card c ≡ false) × (now c ≡ seats c)) ⊎ ((same_card w.card c ≡ true) × (now c ≡ None))) → Shuts o.origin log w e → Ringed o log spans (notes ++ Withdraws w ∷ []) now e
withdrawal-noted d e o log spans notes seats now v more w cards s at below time odometer second stood time_fits odometer_fits images each shuts = record {
  insertions = λ ring y left.
      let i = images y left in
      let was = v.insertions ring i.0 i.1 in
      let sits : IsSeated (sure_insertion o.origin log spans) (IsInsertionIn o log spans e) w.card s (insertions_of notes) was.shows.more i.0 =
      subst (λ (q : Option Seating). IfSome q (λ t. IsSeated (sure_insertion o.origin log spans) (IsInsertionIn o log spans e) w.card t (insertions_of notes) was.shows.more i.0)) at
      (seated-as o log log spans spans notes d e more (go-on log spans notes) w.card (seats w.card) was.shows.more i.0 i.0 (refl, refl) (was.seated w.card)) in
      let is = insertion-withdrawn log spans (holder_in o.origin) (TellsIn o e sits.own.accepted.second) sits.own sits.entry sits.is w.second time odometer second stood time_fits odometer_fits in
      let ring-now = carried o.origin.recording.unit i.0 y was.shows.more was.shows.carries s sits.olders sits.entry sits.newers sits.more_are sits.behind sits.there time odometer i.2 in
      let are : insertions_of (notes ++ Withdraws w ∷ []) ≡ sits.older ++ record sits.own { withdrawn = Some w.second } ∷ sits.newer =
      insertions-more notes (Withdraws w) ∙ ap (note_withdrawal w) sits.notes_are ∙ withdrawal-of-last w sits.older sits.own sits.newer sits.card_is sits.last in record {
        shows = record {
          more = sits.olders ++ with_withdrawal time odometer sits.entry ∷ sits.newers;
          carries = ring-now.1;
          stand = subst (λ (l : List InsertionNote). Stand (sure_insertion o.origin log spans) (IsInsertionIn o log spans e) l (sits.olders ++ with_withdrawal time odometer sits.entry ∷ sits.newers)) (sym are)
              (stands-now (sure_insertion o.origin log spans) (IsInsertionIn o log spans e) w.card s (insertions_of notes) was.shows.more i.0 y sits w.second (with_withdrawal time odometer sits.entry) is ring-now.0);
          few = subst (λ (l : List InsertionNote). AreNoFewer insertion_ring (sure_insertion o.origin log spans) l o.origin.recording.unit y) (sym are)
              (withdrawn-few (sure_insertion o.origin log spans) (insertions_of notes) sits.older sits.own (record sits.own { withdrawn = Some w.second }) sits.newer sits.notes_are o.origin.recording.unit i.0 y refl ring-now.0 was.shows.few);
        };
        seated = λ c. ⊎_elim
            (λ other. subst (λ (q : Option Seating). IfSome q (λ t. IsSeated (sure_insertion o.origin log spans) (IsInsertionIn o log spans e) c t (insertions_of (notes ++ Withdraws w ∷ [])) (sits.olders ++ with_withdrawal time odometer sits.entry ∷ sits.newers) y)) (sym other.1)
            (subst (λ (l : List InsertionNote). IfSome (seats c) (λ t. IsSeated (sure_insertion o.origin log spans) (IsInsertionIn o log spans e) c t l (sits.olders ++ with_withdrawal time odometer sits.entry ∷ sits.newers) y)) (sym are)
            (other-stays (sure_insertion o.origin log spans) (IsInsertionIn o log spans e) w.card s (insertions_of notes) was.shows.more i.0 y sits w.second (with_withdrawal time odometer sits.entry) is ring-now.0 c other.0 (seats c)
            (seated-as o log log spans spans notes d e more (go-on log spans notes) c (seats c) was.shows.more i.0 i.0 (refl, refl) (was.seated c)))))
            (λ own. subst (λ (q : Option Seating). IfSome q (λ t. IsSeated (sure_insertion o.origin log spans) (IsInsertionIn o log spans e) c t (insertions_of (notes ++ Withdraws w ∷ [])) (sits.olders ++ with_withdrawal time odometer sits.entry ∷ sits.newers) y)) (sym own.1) tt)
            (each c);
      };
  places = λ ring y left.
      let i = images y left in
      let was = v.places ring i.0 i.1 in
      subst (λ (l : List PlaceNote). ShowsNotes unit_place_ring (sure_place o.origin log spans) (IsPlaceIn o.origin log spans) l o.origin.recording.unit y) (sym (places-more notes (Withdraws w) ∙ append-nil (places_of notes))) (record {
        more = was.more;
        carries = carries-same unit_place_ring o.origin.recording.unit i.0 was.more was.carries place_shape y (places-same i.0 y s below time odometer i.2);
        stand = was.stand;
        few = few-as unit_place_ring (sure_place o.origin log spans) (places_of notes) o.origin.recording.unit i.0 y (ring-stays unit_place_ring place_shape i.0 y (places-same i.0 y s below time odometer i.2) was.carries.points) was.few;
      });
  on_cards = places-beside o.origin log spans notes (Withdraws w) d e refl cards.places v.on_cards;
  vehicles = vehicles-go o.origin spans spans (IsPutIn o.moves) (Ends w.card) d e (λ u n is. is) (λ c u some ends. ends-put o.moves w.card c u some ends) cards.vehicles v.vehicles;
  sessions = sessions-withdrawn o.origin o.moves log notes w d e cards.sessions shuts v.sessions;
}
  where
    places-same : (x y : List ℕ) (s : Seating) → s.index < insertion_ring.count → (time : TimeReal) (odometer : Odometer) → (IsWithdrawn s.index time odometer x y × (s.behind < insertion_ring.count)) ⊎ (HasSameRings x y × (insertion_ring.count ≤ s.behind)) →
        bytes_at y unit_place_ring.base (size_of unit_place_ring) ≡ bytes_at x unit_place_ring.base (size_of unit_place_ring)
    places-same x y s below time odometer (inl (w, lt)) = ring_outside unit_place_ring (place_of insertion_ring s.index) insertion_ring.width x y (inl (omega (arith, below))) w.outside
    places-same x y s below time odometer (inr (same, many)) = same.places

-- ---- or the unit failed in it

-- the time alone was written
timed-now : (start x y : List ℕ) (ms : List (List ℕ)) (h : RingKeeps insertion_ring start x ms) (s : Seating) (olders : List (List ℕ)) (entry : List ℕ) (newers : List (List ℕ)) → ms ≡ olders ++ entry ∷ newers → length newers ≡ s.behind →
    StandsAt s x ⊎ (insertion_ring.count ≤ s.behind) → (time : TimeReal) → IsSet insertion_ring s.index out_place (time_bytes time) x y → s.behind < insertion_ring.count →
    RingKeeps insertion_ring start y (olders ++ put out_place (time_bytes time) entry ∷ newers)
timed-now start x y ms h s olders entry newers are behind there time w lt = ⊎_elim
    (λ at.
    let was = entry-was insertion_ring start x ms h y s.index (put out_place (time_bytes time) (entry_at insertion_ring x s.index)) at.0 at.1 w.pointer_is (w.indices_are h.points) at.2 (index-alone insertion_ring x at.0 s.index at.1 at.2) (w.list_is h.points)
    (index-itself s.index) olders entry newers are (behind ∙ sym at.3) in
    subst (λ (l : List ℕ). RingKeeps insertion_ring start y (olders ++ put out_place (time_bytes time) l ∷ newers)) (sym was)
    (carries-changed insertion_ring start x ms h y s.index (put out_place (time_bytes time) (entry_at insertion_ring x s.index)) at.0 at.1 w.pointer_is (w.indices_are h.points) at.2 (index-alone insertion_ring x at.0 s.index at.1 at.2) (w.list_is h.points)
    (index-itself s.index) olders entry newers are (behind ∙ sym at.3)))
    (λ gone. absurd (omega (arith, lt, gone)))
    there

pub withdrawal-broken : (d e : Devices) (o : Since) (log : RunLog) (spans : List SpanFrom) (notes : List Note) (seats : Card → Option Seating) → Ringed o log spans notes seats d → HaveLeftMore o.origin d e → (w : Withdrawal) → CardsGo o.origin spans (Ends w.card) d e → (s : Seating) → seats w.card ≡ Some s → s.index < insertion_ring.count →
    (time : TimeReal) (odometer : Odometer) → time.0 ≡ w.second → odometer.0 ≡ odometer_at w.second spans → time.0 < 256 ^ 4 → odometer.0 < 256 ^ 3 → Writes (MayBeWithdrawn s time odometer) d e → has_failed_in log w.second ≡ true →
    Ringed o log spans (notes ++ Withdraws w ∷ []) (λ c. None) e
withdrawal-broken d e o log spans notes seats v more w cards s at below time odometer second stood time_fits odometer_fits images has = record {
  insertions = λ ring y left.
      let i = images y left in
      let was = v.insertions ring i.0 i.1 in
      let sits : IsSeated (sure_insertion o.origin log spans) (IsInsertionIn o log spans e) w.card s (insertions_of notes) was.shows.more i.0 =
      subst (λ (q : Option Seating). IfSome q (λ t. IsSeated (sure_insertion o.origin log spans) (IsInsertionIn o log spans e) w.card t (insertions_of notes) was.shows.more i.0)) at
      (seated-as o log log spans spans notes d e more (go-on log spans notes) w.card (seats w.card) was.shows.more i.0 i.0 (refl, refl) (was.seated w.card)) in
      let are : insertions_of (notes ++ Withdraws w ∷ []) ≡ sits.older ++ record sits.own { withdrawn = Some w.second } ∷ sits.newer =
      insertions-more notes (Withdraws w) ∙ ap (note_withdrawal w) sits.notes_are ∙ withdrawal-of-last w sits.older sits.own sits.newer sits.card_is sits.last in record {
        shows = subst (λ (l : List InsertionNote). ShowsNotes insertion_ring (sure_insertion o.origin log spans) (IsInsertionIn o log spans e) l o.origin.recording.unit y) (sym are) (by i.0 y was.shows.more was.shows.carries was.shows.few sits i.2);
        seated = λ c. tt;
      };
  places = λ ring y left.
      let i = images y left in
      let was = v.places ring i.0 i.1 in
      subst (λ (l : List PlaceNote). ShowsNotes unit_place_ring (sure_place o.origin log spans) (IsPlaceIn o.origin log spans) l o.origin.recording.unit y) (sym (places-more notes (Withdraws w) ∙ append-nil (places_of notes))) (record {
        more = was.more;
        carries = carries-same unit_place_ring o.origin.recording.unit i.0 was.more was.carries place_shape y (places-same i.0 y i.2);
        stand = was.stand;
        few = few-as unit_place_ring (sure_place o.origin log spans) (places_of notes) o.origin.recording.unit i.0 y (ring-stays unit_place_ring place_shape i.0 y (places-same i.0 y i.2) was.carries.points) was.few;
      });
  on_cards = places-beside o.origin log spans notes (Withdraws w) d e refl cards.places v.on_cards;
  vehicles = vehicles-go o.origin spans spans (IsPutIn o.moves) (Ends w.card) d e (λ u n is. is) (λ c u some ends. ends-put o.moves w.card c u some ends) cards.vehicles v.vehicles;
  sessions = sessions-withdrawn o.origin o.moves log notes w d e cards.sessions (shuts-none o.origin log w e has) v.sessions;
}
  where
    places-same : (x y : List ℕ) → MayBeWithdrawn s time odometer x y → bytes_at y unit_place_ring.base (size_of unit_place_ring) ≡ bytes_at x unit_place_ring.base (size_of unit_place_ring)
    places-same x y (inl (inl same, lt)) = ap (λ (z : List ℕ). bytes_at z unit_place_ring.base (size_of unit_place_ring)) same
    places-same x y (inl (inr (inl set), lt)) = ring_outside unit_place_ring (place_of insertion_ring s.index) insertion_ring.width x y (inl (omega (arith, below))) set.outside
    places-same x y (inl (inr (inr whole), lt)) = ring_outside unit_place_ring (place_of insertion_ring s.index) insertion_ring.width x y (inl (omega (arith, below))) whole.outside
    places-same x y (inr (same, many)) = same.places

    by : (x y : List ℕ) (ms : List (List ℕ)) → RingKeeps insertion_ring o.origin.recording.unit x ms → AreNoFewer insertion_ring (sure_insertion o.origin log spans) (insertions_of notes) o.origin.recording.unit x → (sits : IsSeated (sure_insertion o.origin log spans) (IsInsertionIn o log spans e) w.card s (insertions_of notes) ms x) → MayBeWithdrawn s time odometer x y →
        ShowsNotes insertion_ring (sure_insertion o.origin log spans) (IsInsertionIn o log spans e) (sits.older ++ record sits.own { withdrawn = Some w.second } ∷ sits.newer) o.origin.recording.unit y
    by x y ms h few sits (inl (inl same, lt)) = record {
      more = sits.olders ++ sits.entry ∷ sits.newers;
      carries = subst (λ (z : List ℕ). RingKeeps insertion_ring o.origin.recording.unit z (sits.olders ++ sits.entry ∷ sits.newers)) (sym same) (subst (λ (l : List (List ℕ)). RingKeeps insertion_ring o.origin.recording.unit x l) sits.more_are h);
      stand = stands-now (sure_insertion o.origin log spans) (IsInsertionIn o log spans e) w.card s (insertions_of notes) ms x x sits w.second sits.entry
          (insertion-unwritten log spans (holder_in o.origin) (TellsIn o e sits.own.accepted.second) sits.own sits.entry sits.is w.second time odometer second stood time_fits odometer_fits sits.stays has) (refl, refl);
      few = withdrawn-few (sure_insertion o.origin log spans) (insertions_of notes) sits.older sits.own (record sits.own { withdrawn = Some w.second }) sits.newer sits.notes_are o.origin.recording.unit x y refl (ring-same insertion_ring x y same) few;
    }
    by x y ms h few sits (inl (inr (inl set), lt)) = record {
      more = sits.olders ++ put out_place (time_bytes time) sits.entry ∷ sits.newers;
      carries = timed-now o.origin.recording.unit x y ms h s sits.olders sits.entry sits.newers sits.more_are sits.behind sits.there time set lt;
      stand = stands-now (sure_insertion o.origin log spans) (IsInsertionIn o log spans e) w.card s (insertions_of notes) ms x x sits w.second (put out_place (time_bytes time) sits.entry)
          (insertion-timed log spans (holder_in o.origin) (TellsIn o e sits.own.accepted.second) sits.own sits.entry sits.is w.second time odometer second stood time_fits odometer_fits sits.stays has) (refl, refl);
      few = withdrawn-few (sure_insertion o.origin log spans) (insertions_of notes) sits.older sits.own (record sits.own { withdrawn = Some w.second }) sits.newer sits.notes_are o.origin.recording.unit x y refl (set.indices_are h.points, stays-turned s.index x y h.points set.pointer_is set.others set.there) few;
    }
    by x y ms h few sits (inl (inr (inr whole), lt)) = record {
      more = sits.olders ++ with_withdrawal time odometer sits.entry ∷ sits.newers;
      carries = (carried o.origin.recording.unit x y ms h s sits.olders sits.entry sits.newers sits.more_are sits.behind sits.there time odometer (inl (whole, lt))).1;
      stand = stands-now (sure_insertion o.origin log spans) (IsInsertionIn o log spans e) w.card s (insertions_of notes) ms x x sits w.second (with_withdrawal time odometer sits.entry)
          (insertion-withdrawn log spans (holder_in o.origin) (TellsIn o e sits.own.accepted.second) sits.own sits.entry sits.is w.second time odometer second stood time_fits odometer_fits) (refl, refl);
      few = withdrawn-few (sure_insertion o.origin log spans) (insertions_of notes) sits.older sits.own (record sits.own { withdrawn = Some w.second }) sits.newer sits.notes_are o.origin.recording.unit x y refl (whole.indices_are h.points, withdrawn-turn s.index time odometer x y whole h.points) few;
    }
    by x y ms h few sits (inr (same, many)) = record {
      more = sits.olders ++ with_withdrawal time odometer sits.entry ∷ sits.newers;
      carries = (carried o.origin.recording.unit x y ms h s sits.olders sits.entry sits.newers sits.more_are sits.behind sits.there time odometer (inr (same, many))).1;
      stand = stands-now (sure_insertion o.origin log spans) (IsInsertionIn o log spans e) w.card s (insertions_of notes) ms x x sits w.second (with_withdrawal time odometer sits.entry)
          (insertion-withdrawn log spans (holder_in o.origin) (TellsIn o e sits.own.accepted.second) sits.own sits.entry sits.is w.second time odometer second stood time_fits odometer_fits) (refl, refl);
      few = withdrawn-few (sure_insertion o.origin log spans) (insertions_of notes) sits.older sits.own (record sits.own { withdrawn = Some w.second }) sits.newer sits.notes_are o.origin.recording.unit x y refl (ring-stays insertion_ring insertion_shape x y same.insertions h.points) few;
    }
