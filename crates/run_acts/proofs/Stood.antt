-- What stood on a card stands: over calls, and as seconds end in which a call fails or none does.
use Rattle.std.proofs.Common.{◌≡◌, ◌∙◌, ◌⊎◌, is_some, Some, inl, inr, ⊎_elim, ℕ, ◌/◌, ◌≤◌, Bool, true, false, ◌||◌, List, [], ◌∷◌, ◌++◌, All, filter, fold, cond, length, ◌<◌, refl, sym, ap, subst, arith, append_assoc, append-nil}
use Rattle.std.specs.Prelude.{nat_eq, nat_lt, ◌&&◌, Contains, map}
use Rattle.std.specs.List.{AllByRecursion, list_any}
use Rattle.std.proofs.lemmas.Bool.Decides.{nat_tests}
use Rattle.std.proofs.lemmas.Bool.{ltb-true, ltb-false}
use Rattle.std.proofs.lemmas.List.Elements.{All-nil, All-cons, All-head, All-tail, Contains-append_left, Contains-append_right, Contains-push, filter-append}
use Rattle.std.proofs.lemmas.List.Sums.{fold-append}
use Rattle.trace_model.specs.declared.Card.{Card}
use Rattle.trace_model.specs.declared.Card.TheVariants.{A, B}
use Rattle.trace_model.specs.Trace.{TraceSecond}
use Rattle.tach_media.specs.Medium.{State, last_count}
use Rattle.run_events.specs.gated_ring.Ring.{PointsInside}
use Rattle.log_model.specs.Log.{RunLog, In}
use Rattle.log_model.specs.Causes.{has_failed, second_of, device_of, cards_torn}
use Rattle.log_model.specs.Course.{Visit, ToldSecond, Went, second_told, went_on, went, not_begun}
use Rattle.log_model.proofs.Growth.{went-same}
use Rattle.log_model.specs.Same.{SameAt}
use Rattle.log_model.specs.declared.lines.Break.{Break}
use Rattle.log_model.specs.declared.lines.Break.TheVariants.{Cut, Tear}
use Rattle.card_files.specs.card_layout.declared.files.Application.{Application}
use Rattle.hand_model.specs.card_image.Fields.{vehicle_ring}
use Rattle.hand_model.specs.card_image.Own.{own_sizes, IsOwnValid}
use Rattle.run_minutes.specs.run_promise.Beside.{HaveLeftMore}
use Rattle.device_calls.specs.card_session.Books.{mark_of}
use Rattle.device_calls.specs.card_session.Sessions.{book_of}
use Rattle.device_calls.specs.card_string.Deeds.{IsMadeSince}
use Rattle.device_calls.proofs.card_string.MadeSince.{since_then, since_marks}
use Rattle.device_calls.specs.safety_model.Recording.{Recording, card_image}
use Rattle.device_calls.specs.safety_model.Safe.{Devices, card_of, breakdowns_of}
use Rattle.run_minutes.specs.run_promise.Ends.{recording_by}
use Rattle.run_minutes.specs.run_promise.Found.{found_of}
use Rattle.run_minutes.specs.run_promise.Origin.{Origin}
use Rattle.run_minutes.specs.run_devices.Measured.{Reading, MakesOn}
use Rattle.run_minutes.proofs.run_devices.Measured.{makes-self, makes-then, measures-makes}
use Rattle.unit_notes.specs.note_model.Odometer.{SpanFrom}
use Rattle.unit_notes.specs.note_model.Done.{has_failed_in}
use Rattle.run_note_record.specs.OnCards.{has_call_failed_in, VehiclesGo, NoOtherComes}
use Rattle.run_note_record.proofs.Exact.{failed_cut, failed_tear}
use Rattle.run_note_record.proofs.SoFar.{left-itself}
use Rattle.run_minutes.specs.Books.{AreTimedOn}
use Rattle.run_events.specs.run_course.Followed.{IsBreakBefore}
use Rattle.run_acts.specs.Recording.{IsOrigin}
use Rattle.run_acts.specs.RunCards.{sizes_in}
use Rattle.run_acts.specs.Stays.{IsUnhurt}
use Rattle.run_acts.proofs.CardStays.{valid-found}
use Rattle.run_acts.proofs.CardPlaces.{place-go}
use Rattle.run_acts.proofs.RingedSecond.{more-left}
use Rattle.run_acts.specs.declared.run.Run.{Run}
use Rattle.run_acts.specs.CardWrites.{MayHavePlace}
use Rattle.run_acts.specs.Devices.{AreLeftMore}
use Rattle.run_crew.specs.Cards.{session_of}
use Rattle.run_crew.specs.declared.cards.Accepted.{Accepted}
use Rattle.run_minutes.specs.Keeping.{HasLeftMore}
use Rattle.run_minutes.specs.declared.keeper.Moment.{Moment}
use Rattle.run_minutes.specs.run_promise.Between.{devices}
use Rattle.run_outcome.specs.Lines.{Listed}
use Rattle.tacho_types.specs.declared.places.PlaceEntry.{PlaceEntry}
use Rattle.activity_codec.specs.declared.values.Slot.{Slot}
use Rattle.log_model.specs.Slots.{same_card}
use Rattle.run_acts.specs.Stood.{HasExactStays, recording_to, is_torn_out_in, HasFailedOnIn, HasFailedOnBy, StandsStill, HaveStood, IsCalm, HasStood, HaveStoodBehind, LetStand, TellsOn, StandsPlace}

-- ---- CALLS

pub stand-itself : (o : Origin) (d : Devices) → LetStand o d d
stand-itself o d = record { left = left-itself o d; made = λ c valid. makes-self (sizes_in o c) (card_of d c) }

pub stand-then : (o : Origin) (d e f : Devices) → LetStand o d e → LetStand o e f → LetStand o d f
stand-then o d e f first next = record {
  left = record { unit = λ x had. next.left.unit x (first.left.unit x had); card = λ c x had. next.left.card c x (first.left.card c x had) };
  made = λ c valid. makes-then (sizes_in o c) (card_of d c) (card_of e c) (card_of f c) (first.made c valid) (next.made c valid);
}

-- calls that measure the vehicle entries make the images
pub vehicles-make : (o : Origin) (spans : List SpanFrom) (May : Card → ℕ → Type 0) (d e : Devices) → VehiclesGo o spans May d e → (c : Card) → IsOwnValid (card_image o.recording c) → MakesOn (sizes_in o c) (card_of d c) (card_of e c)
vehicles-make o spans May d e go c valid y left =
    let was = go c valid y left in
    (was.0, was.1, λ points. let goes = was.2 points in (goes.0, goes.2))

pub vehicles-let : (o : Origin) (spans : List SpanFrom) (d e : Devices) → HaveLeftMore o d e → VehiclesGo o spans NoOtherComes d e → LetStand o d e
vehicles-let o spans d e left go = record { left = left; made = vehicles-make o spans NoOtherComes d e go }

-- two calls, by what may be left behind both
pub let-left : (o : Origin) (d e f : Devices) → HaveLeftMore o d f → ((c : Card) → IsOwnValid (card_image o.recording c) → MakesOn (sizes_in o c) (card_of d c) (card_of e c)) → ((c : Card) → IsOwnValid (card_image o.recording c) → MakesOn (sizes_in o c) (card_of e c) (card_of f c)) → LetStand o d f
let-left o d e f left first next = record { left = left; made = λ c valid. makes-then (sizes_in o c) (card_of d c) (card_of e c) (card_of f c) (first c valid) (next c valid) }

-- minutes are kept
pub timed-let : (o : Origin) → IsOrigin o → (values : List Reading) (d e : Devices) → AreTimedOn o.found values d e → HaveLeftMore o d e → LetStand o d e
timed-let o origin values d e h left = record { left = left; made = made }
  where
    made : (c : Card) → IsOwnValid (card_image o.recording c) → MakesOn (sizes_in o c) (card_of d c) (card_of e c)
    made c valid = subst (λ (x : List ℕ). MakesOn (own_sizes x) (card_of d c) (card_of e c)) (origin.image c)
        (measures-makes (own_sizes (found_of o.found c).image) values (card_of d c) (card_of e c) (h c (valid-found o origin c valid)).2)

-- a place is noted, on the card that entered it,
pub place-stands : (slot : Slot) (entry : PlaceEntry) (at : Moment) (old : Run) (breaks : Listed Break) (d e : Devices) (card : Card) → is_some (session_of old.keeper.cabin.cards card) ≡ true → AreLeftMore d e →
    ((a : Accepted) → session_of old.keeper.cabin.cards card ≡ Some a → MayHavePlace a.session.application entry (card_of d card) (card_of e card)) → ((c : Card) → same_card card c ≡ false → (y : List ℕ) → (card_of e c).may_leave y → (card_of d c).may_leave y) → StandsPlace slot at old breaks d e
place-stands slot entry at old breaks d e card some keeps call others = λ late ending country region speed before is o done s here front rest are n allowed w time.
    vehicles-let o [] d e (more-left o d e (w.within.powered.lit.unit.unit_holds [] []).later w.within.there.clocks keeps)
    (place-go o [] done s (In (length front)) [] [] old before d e w card entry some call others)

-- or on the unit alone
pub unit-makes : (o : Origin) (U V X Y : State) (c : Card) → IsOwnValid (card_image o.recording c) → MakesOn (sizes_in o c) (card_of (devices U X Y) c) (card_of (devices V X Y) c)
unit-makes o U V X Y A valid = makes-self (sizes_in o A) X
unit-makes o U V X Y B valid = makes-self (sizes_in o B) Y

pub cards-stand : (slot : Slot) (at : Moment) (old : Run) (breaks : Listed Break) (U V X Y : State) → HasLeftMore U V → StandsPlace slot at old breaks (devices U X Y) (devices V X Y)
cards-stand slot at old breaks U V X Y keeps = λ late ending country region speed before is o done s here front rest are n allowed w time. record {
  left = more-left o (devices U X Y) (devices V X Y) (w.within.powered.lit.unit.unit_holds [] []).later w.within.there.clocks (record { unit = keeps; card_a = λ t x le at_. at_; card_b = λ t x le at_. at_ });
  made = unit-makes o U V X Y;
}

-- the image of a card at the start is the origin's
image-by : (o : Origin) (done : List TraceSecond) (log : RunLog) (c : Card) → card_image (recording_by o done log) c ≡ card_image o.recording c
image-by o done log A = refl
image-by o done log B = refl

-- over a call each image is made of the one that stood
stands-on : (r : Recording) (c : Card) (began count : ℕ) (X Y : State) (s : StandsStill r c began count X) → MakesOn (own_sizes (card_image r c)) X Y → (y : List ℕ) → Y.may_leave y →
    IsMadeSince (own_sizes (card_image r c)) (mark_of (book_of (own_sizes (card_image r c)) s.0.image)) s.0.image y × PointsInside (vehicle_ring (own_sizes (card_image r c))) y
stands-on r c began count X Y s makes y there =
    let app : Application = own_sizes (card_image r c) in
    let was = makes y there in
    let made = s.0.stands was.0 was.1 in
    let mark : ℕ = mark_of (book_of (own_sizes (card_image r c)) s.0.image) in
    let on = was.2 (s.1 was.0 was.1) in
    (since_then app mark s.0.image was.0 y made (on.1 mark (since_marks app mark s.0.image was.0 made (omega arith))), on.0)

over-calls : (o : Origin) (done : List TraceSecond) (log : RunLog) (d e : Devices) → LetStand o d e → (c : Card) → IsOwnValid (card_image o.recording c) → StandsStill (recording_by o done log) c (found_of o.found c).began (o.breakdowns (device_of c)) (card_of d c) → StandsStill (recording_by o done log) c (found_of o.found c).began (o.breakdowns (device_of c)) (card_of e c)
over-calls o done log d e calls c valid s = (
  record {
    front = s.0.front;
    rest = s.0.rest;
    are = s.0.are;
    told = s.0.told;
    tells = s.0.tells;
    image = s.0.image;
    exact = s.0.exact;
    was = calls.left.card c s.0.image s.0.was;
    stands = λ y there. (stands-on (recording_by o done log) c (found_of o.found c).began (o.breakdowns (device_of c)) (card_of d c) (card_of e c) s makes y there).0;
    until = s.0.until;
  },
  λ y there. (stands-on (recording_by o done log) c (found_of o.found c).began (o.breakdowns (device_of c)) (card_of d c) (card_of e c) s makes y there).1,
)
  where
    makes : MakesOn (own_sizes (card_image (recording_by o done log) c)) (card_of d c) (card_of e c)
    makes = subst (λ (i : List ℕ). MakesOn (own_sizes i) (card_of d c) (card_of e c)) (sym (image-by o done log c)) (calls.made c valid)

pub stood-on : (o : Origin) (done : List TraceSecond) (began : RunLog) (d e : Devices) → HaveStood o done began d → LetStand o d e → HaveStood o done began e
stood-on o done began d e h calls c valid = over-calls o done began d e calls c valid (h c valid)

-- calls by which none has failed on a card on which none had
pub behind-on : (o : Origin) (done : List TraceSecond) (log : RunLog) (d e : Devices) → HaveStoodBehind o done log d → LetStand o d e → ((c : Card) → IsCalm o log c d → IsCalm o log c e) → HaveStoodBehind o done log e
unfolding over-calls
behind-on o done log d e h calls rests c valid = ⊎_elim (λ calm. inl (rests c calm)) (λ s. inr (over-calls o done log d e calls c valid s.0, s.1)) (h c valid)

-- calls on the unit alone
pub unit-rests : (o : Origin) (log : RunLog) (U V X Y : State) (c : Card) → IsCalm o log c (devices U X Y) → IsCalm o log c (devices V X Y)
unit-rests o log U V X Y c calm = ⊎_elim (λ nothing. inl nothing) (λ h. inr (by c h)) calm
  where
    by : (k : Card) → IsUnhurt o log k (devices U X Y) → IsUnhurt o log k (devices V X Y)
    by A h = record { uncut = h.uncut; low = h.low; stands = h.stands }
    by B h = record { uncut = h.uncut; low = h.low; stands = h.stands }

-- ---- LINES

-- of a log nothing has failed, or a call has in a second that it tells of
module _ (m : ℕ) where
  any-failed : (bs : List Break) → AllByRecursion (λ (b : Break). second_of b / 60 ≤ m) bs →
      ((filter failed_cut bs ≡ []) × (filter failed_tear bs ≡ [])) ⊎ ((u : ℕ) × (list_any (λ (b : Break). nat_eq (second_of b) u) (filter has_failed bs) ≡ true) × (u / 60 ≤ m))
  any-failed [] here = inl (refl, refl)
  any-failed (Cut second kept true begun ∷ bs) here =
      let same : nat_eq second second ≡ true = grind (arith, nat_tests) in
      inr (second, ap (λ (x : Bool). x || list_any (λ (b : Break). nat_eq (second_of b) second) (filter has_failed bs)) same, here.0)
  any-failed (Cut second kept false begun ∷ bs) here = any-failed bs here.1
  any-failed (Tear second slot true begun late ∷ bs) here =
      let same : nat_eq second second ≡ true = grind (arith, nat_tests) in
      inr (second, ap (λ (x : Bool). x || list_any (λ (b : Break). nat_eq (second_of b) second) (filter has_failed bs)) same, here.0)
  any-failed (Tear second slot false begun late ∷ bs) here = any-failed bs here.1

  -- or of none of the unit
  cut-failed : (bs : List Break) → AllByRecursion (λ (b : Break). second_of b / 60 ≤ m) bs → (filter failed_cut bs ≡ []) ⊎ ((u : ℕ) × (list_any (λ (b : Break). nat_eq (second_of b) u) (filter failed_cut bs) ≡ true) × (u / 60 ≤ m))
  cut-failed [] here = inl refl
  cut-failed (Cut second kept true begun ∷ bs) here =
      let same : nat_eq second second ≡ true = grind (arith, nat_tests) in
      inr (second, ap (λ (x : Bool). x || list_any (λ (b : Break). nat_eq (second_of b) second) (filter failed_cut bs)) same, here.0)
  cut-failed (Cut second kept false begun ∷ bs) here = cut-failed bs here.1
  cut-failed (Tear second slot failed begun late ∷ bs) here = cut-failed bs here.1

any-before : {X : Type 0} (p : X → Bool) (xs ys : List X) → list_any p xs ≡ true → list_any p (xs ++ ys) ≡ true
any-before p [] ys is = absurd (let wrong : false ≡ true = is in cc)
any-before p (x ∷ xs) ys is = by (p x) (any-before p xs ys) is
  where
    by : (b : Bool) → (list_any p xs ≡ true → list_any p (xs ++ ys) ≡ true) → (b || list_any p xs) ≡ true → (b || list_any p (xs ++ ys)) ≡ true
    by true rest has = refl
    by false rest has = rest has

module _ (began later : RunLog) (more : List Break) (breaks : later.breaks ≡ began.breaks ++ more) where
  still-in : (p : Break → Bool) (u : ℕ) → list_any (λ (b : Break). nat_eq (second_of b) u) (filter p began.breaks) ≡ true → list_any (λ (b : Break). nat_eq (second_of b) u) (filter p later.breaks) ≡ true
  still-in p u has =
      ap (λ (bs : List Break). list_any (λ (b : Break). nat_eq (second_of b) u) (filter p bs)) breaks
      ∙ ap (list_any (λ (b : Break). nat_eq (second_of b) u)) (filter-append p began.breaks more)
      ∙ any-before (λ (b : Break). nat_eq (second_of b) u) (filter p began.breaks) (filter p more) has

  -- what had failed has failed
  pub failed-still : (u : ℕ) → has_call_failed_in began u ≡ true → has_call_failed_in later u ≡ true
  failed-still u has = still-in has_failed u has

  pub cut-still : (u : ℕ) → has_failed_in began u ≡ true → has_failed_in later u ≡ true
  cut-still u has = still-in failed_cut u has

-- ---- WHAT WAS TORN OUT

-- more seconds
went-parts : (log : RunLog) (ss more : List TraceSecond) → went log (ss ++ more) ≡ fold (went_on log) (went log ss) more
unfolding went
went-parts log ss more = fold-append (went_on log) not_begun ss more

torn-longer : (log : RunLog) (w : Went) (ss : List TraceSecond) (c : Card) (u : ℕ) → is_torn_out_in w.told c u ≡ true → is_torn_out_in (fold (went_on log) w ss).told c u ≡ true
torn-longer log w [] c u has = has
torn-longer log w (s ∷ ss) c u has = torn-longer log (went_on log w s) ss c u
    (any-before (λ (t : ToldSecond). nat_eq t.second.number u && list_any (λ (v : Visit). same_card c v.card) t.course.torn) w.told (second_told log w.before s ∷ []) has)

-- by a log that tells the same
pub same-torn : (log later : RunLog) (done : List TraceSecond) → went later done ≡ went log done → (c : Card) (u : ℕ) → is_torn_out_in (went log done).told c u ≡ true → is_torn_out_in (went later done).told c u ≡ true
same-torn log later done same c u has = ap (λ (w : Went). is_torn_out_in w.told c u) same ∙ has

-- cards of visits, of seconds
visits-torn : (c : Card) (vs : List Visit) → (filter (same_card c) (map (λ (v : Visit). v.card) vs) ≡ []) ⊎ (list_any (λ (v : Visit). same_card c v.card) vs ≡ true)
visits-torn c [] = inl refl
visits-torn c (v ∷ vs) = by (same_card c v.card) (visits-torn c vs)
  where
    by : (b : Bool) → (filter (same_card c) (map (λ (x : Visit). x.card) vs) ≡ []) ⊎ (list_any (λ (x : Visit). same_card c x.card) vs ≡ true)
        → (cond b (v.card ∷ filter (same_card c) (map (λ (x : Visit). x.card) vs)) (filter (same_card c) (map (λ (x : Visit). x.card) vs)) ≡ []) ⊎ ((b || list_any (λ (x : Visit). same_card c x.card) vs) ≡ true)
    by true rest = inr refl
    by false rest = rest

or-right : (a b : Bool) → b ≡ true → (a || b) ≡ true
or-right true b is = refl
or-right false b is = is

seconds-torn : (c : Card) (m : ℕ) (told : List ToldSecond) → ((t : ToldSecond) → Contains told t → t.second.number / 60 ≤ m) → (filter (same_card c) (cards_torn told) ≡ []) ⊎ ((u : ℕ) × (is_torn_out_in told c u ≡ true) × (u / 60 ≤ m))
seconds-torn c m [] low = inl refl
seconds-torn c m (t ∷ told) low = by (visits-torn c t.course.torn) (seconds-torn c m told (λ x there. low x (Contains-append_right (t ∷ []) told x there)))
  where
    by : (filter (same_card c) (map (λ (v : Visit). v.card) t.course.torn) ≡ []) ⊎ (list_any (λ (v : Visit). same_card c v.card) t.course.torn ≡ true) → (filter (same_card c) (cards_torn told) ≡ []) ⊎ ((u : ℕ) × (is_torn_out_in told c u ≡ true) × (u / 60 ≤ m))
        → (filter (same_card c) (cards_torn (t ∷ told)) ≡ []) ⊎ ((u : ℕ) × (is_torn_out_in (t ∷ told) c u ≡ true) × (u / 60 ≤ m))
    by (inr torn) rest =
        let same : nat_eq t.second.number t.second.number ≡ true = grind (arith, nat_tests) in
        inr (
          t.second.number,
          ap (λ (b : Bool). (b && list_any (λ (v : Visit). same_card c v.card) t.course.torn) || is_torn_out_in told c t.second.number) same
              ∙ ap (λ (b : Bool). b || is_torn_out_in told c t.second.number) torn,
          low t (Contains-append_left (t ∷ []) told t (Contains-push [] t)),
        )
    by (inl none) (inr has) = inr (has.0, or-right (nat_eq t.second.number has.0 && list_any (λ (v : Visit). same_card c v.card) t.course.torn) (is_torn_out_in told c has.0) has.1, has.2)
    by (inl none) (inl rest) = inl (filter-append (same_card c) (map (λ (v : Visit). v.card) t.course.torn) (cards_torn told) ∙ ap (λ (l : List Card). l ++ filter (same_card c) (cards_torn told)) none ∙ rest)

-- ---- HAS ONE FAILED?

-- as many, or fewer
low-or : (n k : ℕ) → (k < n) ⊎ (n ≤ k)
low-or n k = by (nat_lt k n) refl
  where
    by : (b : Bool) → nat_lt k n ≡ b → (k < n) ⊎ (n ≤ k)
    by true is = inl (ltb-true k n is)
    by false is = inr (ltb-false k n is)

module _ (o : Origin) (done : List TraceSecond) (t : TraceSecond) (ss : List TraceSecond) (log : RunLog) (d : Devices) (c : Card) (early : AllByRecursion (λ (b : Break). second_of b / 60 ≤ t.number / 60) log.breaks)
    (low : (x : ToldSecond) → Contains (went log (done ++ t ∷ ss)).told x → x.second.number / 60 ≤ t.number / 60) (stands : filter (same_card c) (cards_torn (went log (done ++ t ∷ ss)).told) ≡ [] → breakdowns_of d (device_of c) ≡ o.breakdowns (device_of c)) where
  abbrev Decided : Type 0
  Decided = IsCalm o log c d ⊎ HasFailedOnBy (recording_by o (done ++ t ∷ ss) log) c (o.breakdowns (device_of c)) (t ∷ ss)

  by-count : (u : ℕ) → has_call_failed_in log u ≡ true → u / 60 ≤ t.number / 60 → filter failed_cut log.breaks ≡ [] → filter (same_card c) (cards_torn (went log (done ++ t ∷ ss)).told) ≡ [] → (o.breakdowns (device_of c) < last_count) ⊎ (last_count ≤ o.breakdowns (device_of c)) → Decided
  by-count u any by_then uncut calm (inl below) = inl (inr (record { uncut = uncut; low = below; stands = stands calm }))
  by-count u any by_then uncut calm (inr last) = inr (u, inr (inr (last, any)), by_then)

  by-torn : (u : ℕ) → has_call_failed_in log u ≡ true → u / 60 ≤ t.number / 60 → filter failed_cut log.breaks ≡ [] →
      (filter (same_card c) (cards_torn (went log (done ++ t ∷ ss)).told) ≡ []) ⊎ ((v : ℕ) × (is_torn_out_in (went log (done ++ t ∷ ss)).told c v ≡ true) × (v / 60 ≤ t.number / 60)) → Decided
  by-torn u any by_then uncut (inl calm) = by-count u any by_then uncut calm (low-or last_count (o.breakdowns (device_of c)))
  by-torn u any by_then uncut (inr torn) = inr (torn.0, inr (inl torn.1), torn.2)

  by-cut : (u : ℕ) → has_call_failed_in log u ≡ true → u / 60 ≤ t.number / 60 → (filter failed_cut log.breaks ≡ []) ⊎ ((v : ℕ) × (has_failed_in log v ≡ true) × (v / 60 ≤ t.number / 60)) → Decided
  by-cut u any by_then (inl uncut) = by-torn u any by_then uncut (seconds-torn c (t.number / 60) (went log (done ++ t ∷ ss)).told low)
  by-cut u any by_then (inr cut) = inr (cut.0, inl cut.1, cut.2)

  -- BEHIND THESE SECONDS a call on a card or on the unit has failed by the minute of one; or none has yet
  pub decides : IsCalm o log c d ⊎ HasFailedOnBy (recording_by o (done ++ t ∷ ss) log) c (o.breakdowns (device_of c)) (t ∷ ss)
  decides = ⊎_elim (λ nothing. inl (inl nothing)) (λ any. by-cut any.0 any.1 any.2 (cut-failed (t.number / 60) log.breaks early)) (any-failed (t.number / 60) log.breaks early)

-- ---- WHAT HAD FAILED HAS FAILED, on a card or on the unit

-- by a log that tells more, as more seconds go
module _ (o : Origin) (done ss : List TraceSecond) (log later : RunLog) (still : (u : ℕ) → has_call_failed_in log u ≡ true → has_call_failed_in later u ≡ true) (cut : (u : ℕ) → has_failed_in log u ≡ true → has_failed_in later u ≡ true)
    (torn : (c : Card) (u : ℕ) → is_torn_out_in (went log done).told c u ≡ true → is_torn_out_in (went later done).told c u ≡ true) (c : Card) (count : ℕ) where
  failed-in : (u : ℕ) → HasFailedOnIn (recording_by o done log) c count u → HasFailedOnIn (recording_by o (done ++ ss) later) c count u
  failed-in u (inl has) = inl (cut u has)
  failed-in u (inr (inl has)) = inr (inl (ap (λ (w : Went). is_torn_out_in w.told c u) (went-parts later done ss) ∙ torn-longer later (went later done) ss c u (torn c u has)))
  failed-in u (inr (inr has)) = inr (inr (has.0, still u has.1))

  failed-longer : (rest more : List TraceSecond) → HasFailedOnBy (recording_by o done log) c count rest → HasFailedOnBy (recording_by o (done ++ ss) later) c count (rest ++ more)
  failed-longer [] more failed = absurd failed
  failed-longer (s ∷ rest) more failed = (failed.0, failed-in failed.0 failed.1, failed.2)

-- some seconds are behind it
failed-some : (r : Recording) (c : Card) (count : ℕ) (rest : List TraceSecond) → HasFailedOnBy r c count rest → rest ≡ [] → ⊥
failed-some r c count [] failed is = failed
failed-some r c count (s ∷ rest) failed is = cc

-- ---- one log after another

pub same-then : (a b c : RunLog) (u : ℕ) → SameAt a b u → SameAt b c u → SameAt a c u
same-then a b c u first next = record { cut = next.cut ∙ first.cut; torn = λ p slot. next.torn p slot ∙ first.torn p slot; found = λ p slot. next.found p slot ∙ first.found p slot }

pub all-front : (P : TraceSecond → Type 0) (xs ys : List TraceSecond) → All P (xs ++ ys) → All P xs
all-front P [] ys h = All-nil P
all-front P (x ∷ xs) ys h = All-cons P x xs (All-head P x (xs ++ ys) h) (all-front P xs ys (All-tail P x (xs ++ ys) h))

no-empty : (front : List TraceSecond) (s : TraceSecond) (ss : List TraceSecond) → front ++ s ∷ ss ≡ [] → ⊥
no-empty [] s ss is = cc
no-empty (x ∷ front) s ss is = cc

-- of all but the last, where some stand behind them
all-but_last : (P : TraceSecond → Type 0) (front : List TraceSecond) (s : TraceSecond) (ss all : List TraceSecond) (r : TraceSecond) → front ++ s ∷ ss ≡ all ++ r ∷ [] → All P all → All P front
all-but_last P [] s ss all r is h = All-nil P
all-but_last P (x ∷ front) s ss [] r is h = absurd (let tail : front ++ s ∷ ss ≡ [] = cc in no-empty front s ss tail)
all-but_last P (x ∷ front) s ss (y ∷ all) r is h =
    let head : x ≡ y = cc in
    let tail : front ++ s ∷ ss ≡ all ++ r ∷ [] = cc in
    All-cons P x front (subst P (sym head) (All-head P y all h)) (all-but_last P front s ss all r tail (All-tail P y all h))

-- ---- a log tells more

same-all_then : (a b c : RunLog) (ts : List TraceSecond) → All (λ (t : TraceSecond). SameAt a b t.number) ts → All (λ (t : TraceSecond). SameAt b c t.number) ts → All (λ (t : TraceSecond). SameAt a c t.number) ts
same-all_then a b c [] first next = All-nil (λ (t : TraceSecond). SameAt a c t.number)
same-all_then a b c (t ∷ ts) first next = All-cons (λ (x : TraceSecond). SameAt a c x.number) t ts
    (same-then a b c t.number (All-head (λ (x : TraceSecond). SameAt a b x.number) t ts first) (All-head (λ (x : TraceSecond). SameAt b c x.number) t ts next))
    (same-all_then a b c ts (All-tail (λ (x : TraceSecond). SameAt a b x.number) t ts first) (All-tail (λ (x : TraceSecond). SameAt b c x.number) t ts next))

-- of two that tell the same as a third
pub same-back : (a b : RunLog) (ts : List TraceSecond) → All (λ (t : TraceSecond). SameAt a b t.number) ts → All (λ (t : TraceSecond). SameAt b a t.number) ts
same-back a b [] h = All-nil (λ (t : TraceSecond). SameAt b a t.number)
same-back a b (t ∷ ts) h =
    let one : SameAt a b t.number = All-head (λ (x : TraceSecond). SameAt a b x.number) t ts h in
    All-cons (λ (x : TraceSecond). SameAt b a x.number) t ts
    (record { cut = sym one.cut; torn = λ p slot. sym (one.torn p slot); found = λ p slot. sym (one.found p slot) })
    (same-back a b ts (All-tail (λ (x : TraceSecond). SameAt a b x.number) t ts h))

pub tells-beside : (began log later : RunLog) (done : List TraceSecond) → All (λ (t : TraceSecond). SameAt began log t.number) done → All (λ (t : TraceSecond). SameAt began later t.number) done → (more : List Break) → later.breaks ≡ log.breaks ++ more → TellsOn log later done
tells-beside began log later done was now more breaks = record { same = same-all_then log began later done (same-back began log done was) now; still = failed-still log later more breaks; cut = cut-still log later more breaks }

same-self : (log : RunLog) (ts : List TraceSecond) → All (λ (t : TraceSecond). SameAt log log t.number) ts
same-self log [] = All-nil (λ (t : TraceSecond). SameAt log log t.number)
same-self log (t ∷ ts) = All-cons (λ (x : TraceSecond). SameAt log log x.number) t ts (record { cut = refl; torn = λ p slot. refl; found = λ p slot. refl }) (same-self log ts)

pub tells-self : (log : RunLog) (done : List TraceSecond) → TellsOn log log done
tells-self log done = record { same = same-self log done; still = λ u failed. failed; cut = λ u failed. failed }

pub tells-then : (a b c : RunLog) (done : List TraceSecond) → TellsOn a b done → TellsOn b c done → TellsOn a c done
tells-then a b c done first next = record { same = same-all_then a b c done first.same next.same; still = λ u failed. next.still u (first.still u failed); cut = λ u failed. next.cut u (first.cut u failed) }

-- the same lines of breaks and finds
pub tells-same : (log later : RunLog) (done : List TraceSecond) → All (λ (t : TraceSecond). SameAt log later t.number) done → later.breaks ≡ log.breaks → TellsOn log later done
tells-same log later done same breaks = record {
  same = same;
  still = failed-still log later [] (breaks ∙ sym (append-nil log.breaks));
  cut = cut-still log later [] (breaks ∙ sym (append-nil log.breaks));
}

-- ---- A LOG TELLS MORE, and more seconds stand behind these
module _ (o : Origin) (done ss : List TraceSecond) (began later : RunLog) (d : Devices) (c : Card) (s : StandsStill (recording_by o done began) c (found_of o.found c).began (o.breakdowns (device_of c)) (card_of d c)) (same : All (λ (t : TraceSecond). SameAt began later t.number) s.0.front) where
  -- by a later log, and with more seconds behind them
  moved : (s.0.rest ++ ss ≡ []) ⊎ HasFailedOnBy (recording_by o (done ++ ss) later) c (o.breakdowns (device_of c)) (s.0.rest ++ ss) → StandsStill (recording_by o (done ++ ss) later) c (found_of o.found c).began (o.breakdowns (device_of c)) (card_of d c)
  moved until = (
    record {
      front = s.0.front;
      rest = s.0.rest ++ ss;
      are = ap (λ (l : List TraceSecond). l ++ ss) s.0.are ∙ append_assoc s.0.front s.0.rest ss;
      told = s.0.told;
      tells = same-all_then s.0.told began later s.0.front s.0.tells same;
      image = s.0.image;
      exact = exact-as c s.0.exact;
      was = s.0.was;
      stands = stands-as c s.0.image s.0.stands;
      until = until;
    },
    points-as c s.1,
  )
    where
      -- these hang on no log and no seconds but those of the front
      exact-as : (k : Card) → HasExactStays (recording_to (recording_by o done began) s.0.front s.0.told) k (λ x. x ≡ s.0.image) → HasExactStays (recording_to (recording_by o (done ++ ss) later) s.0.front s.0.told) k (λ x. x ≡ s.0.image)
      exact-as k h = h

      stands-as : (k : Card) (image : List ℕ) → ((x : List ℕ) → (card_of d c).may_leave x → IsMadeSince (own_sizes (card_image (recording_by o done began) k)) (mark_of (book_of (own_sizes (card_image (recording_by o done began) k)) image)) image x)
          → (x : List ℕ) → (card_of d c).may_leave x → IsMadeSince (own_sizes (card_image (recording_by o (done ++ ss) later) k)) (mark_of (book_of (own_sizes (card_image (recording_by o (done ++ ss) later) k)) image)) image x
      stands-as A image h = h
      stands-as B image h = h

      points-as : (k : Card) → ((x : List ℕ) → (card_of d c).may_leave x → PointsInside (vehicle_ring (own_sizes (card_image (recording_by o done began) k))) x) → (x : List ℕ) → (card_of d c).may_leave x → PointsInside (vehicle_ring (own_sizes (card_image (recording_by o (done ++ ss) later) k))) x
      points-as A h = h
      points-as B h = h

-- within a second
pub stood-told : (o : Origin) (done : List TraceSecond) (log later : RunLog) (d : Devices) → TellsOn log later done → HaveStood o done log d → HaveStood o done later d
stood-told o done log later d tells h c valid =
    subst (λ (ss : List TraceSecond). StandsStill (recording_by o ss later) c (found_of o.found c).began (o.breakdowns (device_of c)) (card_of d c)) (append-nil done)
    (moved o done [] log later d c s (all-front (λ (x : TraceSecond). SameAt log later x.number) s.0.front s.0.rest (subst (All (λ (x : TraceSecond). SameAt log later x.number)) s.0.are tells.same)) (⊎_elim
    (λ none. inl (append-nil s.0.rest ∙ none))
    (λ failed. inr (failed-longer o done [] log later tells.still tells.cut (same-torn log later done (went-same log later done tells.same)) c (o.breakdowns (device_of c)) s.0.rest [] failed))
    s.0.until))
  where
    s : StandsStill (recording_by o done log) c (found_of o.found c).began (o.breakdowns (device_of c)) (card_of d c)
    s = h c valid

-- A SECOND ENDS, or several of one minute: by then a call has failed on the card or on the unit, or none has yet
pub stood-ends : (o : Origin) (done : List TraceSecond) (t : TraceSecond) (ss : List TraceSecond) (log later : RunLog) (d : Devices) → TellsOn log later done →
    ((c : Card) → IsCalm o later c d ⊎ HasFailedOnBy (recording_by o (done ++ t ∷ ss) later) c (o.breakdowns (device_of c)) (t ∷ ss)) → HaveStood o done log d → HaveStoodBehind o (done ++ t ∷ ss) later d
unfolding moved
stood-ends o done t ss log later d tells decided h c valid = ⊎_elim (λ calm. inl calm) (λ failed. inr (by failed s.0.until)) (decided c)
  where
    s : StandsStill (recording_by o done log) c (found_of o.found c).began (o.breakdowns (device_of c)) (card_of d c)
    s = h c valid

    same : All (λ (x : TraceSecond). SameAt log later x.number) s.0.front
    same = all-front (λ (x : TraceSecond). SameAt log later x.number) s.0.front s.0.rest (subst (All (λ (x : TraceSecond). SameAt log later x.number)) s.0.are tells.same)

    ends : HasFailedOnBy (recording_by o (done ++ t ∷ ss) later) c (o.breakdowns (device_of c)) (s.0.rest ++ t ∷ ss) → HasStood o (done ++ t ∷ ss) later c d
    ends has = (moved o done (t ∷ ss) log later d c s same (inr has), has)

    by : HasFailedOnBy (recording_by o (done ++ t ∷ ss) later) c (o.breakdowns (device_of c)) (t ∷ ss) → (s.0.rest ≡ []) ⊎ HasFailedOnBy (recording_by o done log) c (o.breakdowns (device_of c)) s.0.rest → HasStood o (done ++ t ∷ ss) later c d
    by has (inr failed) = ends (failed-longer o done (t ∷ ss) log later tells.still tells.cut (same-torn log later done (went-same log later done tells.same)) c (o.breakdowns (device_of c)) s.0.rest (t ∷ ss) failed)
    by has (inl none) = ends (subst (λ (l : List TraceSecond). HasFailedOnBy (recording_by o (done ++ t ∷ ss) later) c (o.breakdowns (device_of c)) (l ++ t ∷ ss)) (sym none) has)

-- ---- MORE SECONDS in which no call fails, or a log that tells more of what is over
pub behind-ends : (o : Origin) (done ss : List TraceSecond) (log later : RunLog) (d : Devices) → ((front rest : List TraceSecond) → done ≡ front ++ rest → (rest ≡ [] → ⊥) → All (λ (x : TraceSecond). SameAt log later x.number) front)
    → ((c : Card) → IsCalm o log c d → IsCalm o later c d) → ((u : ℕ) → has_call_failed_in log u ≡ true → has_call_failed_in later u ≡ true) → ((u : ℕ) → has_failed_in log u ≡ true → has_failed_in later u ≡ true)
    → ((c : Card) (u : ℕ) → is_torn_out_in (went log done).told c u ≡ true → is_torn_out_in (went later done).told c u ≡ true) → HaveStoodBehind o done log d → HaveStoodBehind o (done ++ ss) later d
unfolding moved
behind-ends o done ss log later d same rests still cut torn h c valid = ⊎_elim (λ calm. inl (rests c calm)) (λ s. inr (by s)) (h c valid)
  where
    by : HasStood o done log c d → HasStood o (done ++ ss) later c d
    by s =
        let has : HasFailedOnBy (recording_by o (done ++ ss) later) c (o.breakdowns (device_of c)) (s.0.0.rest ++ ss) = failed-longer o done ss log later still cut torn c (o.breakdowns (device_of c)) s.0.0.rest ss s.1 in
        let some = failed-some (recording_by o done log) c (o.breakdowns (device_of c)) s.0.0.rest s.1 in
        (moved o done ss log later d c s.0 (same s.0.0.front s.0.0.rest s.0.0.are some) (inr has), has)

-- of all seconds the later log tells the same,
pub same-all_front : (log later : RunLog) (done : List TraceSecond) → All (λ (x : TraceSecond). SameAt log later x.number) done → (front rest : List TraceSecond) → done ≡ front ++ rest → (rest ≡ [] → ⊥) → All (λ (x : TraceSecond). SameAt log later x.number) front
same-all_front log later done same front rest are some = all-front (λ (x : TraceSecond). SameAt log later x.number) front rest (subst (All (λ (x : TraceSecond). SameAt log later x.number)) are same)

-- or of all but the last
pub same-but_last : (log later : RunLog) (all : List TraceSecond) (r : TraceSecond) → All (λ (x : TraceSecond). SameAt log later x.number) all → (front rest : List TraceSecond) → all ++ r ∷ [] ≡ front ++ rest → (rest ≡ [] → ⊥) → All (λ (x : TraceSecond). SameAt log later x.number) front
same-but_last log later all r same front [] are some = absurd (some refl)
same-but_last log later all r same front (s ∷ ss) are some = all-but_last (λ (x : TraceSecond). SameAt log later x.number) front s ss all r (sym are) same

-- no call has failed by these lines either
pub calm-more : (o : Origin) (log later : RunLog) (more : List Break) (d : Devices) → later.breaks ≡ log.breaks ++ more → filter failed_cut more ≡ [] → filter failed_tear more ≡ [] → (c : Card) → IsCalm o log c d → IsCalm o later c d
calm-more o log later more d breaks cut tear c calm = ⊎_elim
    (λ none. inl (still failed_cut none.0 cut, still failed_tear none.1 tear))
    (λ h. inr (record { uncut = still failed_cut h.uncut cut; low = h.low; stands = h.stands })) calm
  where
    still : (p : Break → Bool) → filter p log.breaks ≡ [] → filter p more ≡ [] → filter p later.breaks ≡ []
    still p none rest = ap (λ (bs : List Break). filter p bs) breaks ∙ filter-append p log.breaks more ∙ ap (λ (bs : List Break). bs ++ filter p more) none ∙ rest

-- A SECOND BEGINS: what stood once a call has failed, or else what is exact now
pub stood-begins : (o : Origin) (done : List TraceSecond) (log : RunLog) (d : Devices) → HaveStoodBehind o done log d →
    ((c : Card) → IsOwnValid (card_image o.recording c) → IsCalm o log c d → StandsStill (recording_by o done log) c (found_of o.found c).began (o.breakdowns (device_of c)) (card_of d c)) → HaveStood o done log d
stood-begins o done log d h fresh c valid = ⊎_elim (λ calm. fresh c valid calm) (λ s. s.0) (h c valid)

-- lines that are before a second
pub lines-early : (next : ℕ) (bs : List Break) → AllByRecursion (IsBreakBefore next next) bs → (minute : ℕ) → ((u : ℕ) → u < next → u / 60 ≤ minute) → AllByRecursion (λ (b : Break). second_of b / 60 ≤ minute) bs
lines-early next [] here minute early = tt
lines-early next (Cut second kept failed begun ∷ bs) here minute early = (early second here.0, lines-early next bs here.1 minute early)
lines-early next (Tear second slot failed begun late ∷ bs) here minute early = (early second here.0, lines-early next bs here.1 minute early)
