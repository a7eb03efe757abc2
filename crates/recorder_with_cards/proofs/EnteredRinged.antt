-- A card is judged: its insertion in the rings of a run with cards.
use Rattle.std.proofs.Common.{◌≡◌, ◌∙◌, ◌⊎◌, inl, inr, ℕ, suc, ◌+◌, ◌-◌, ◌^◌, ◌<◌, ◌≤◌, Result, Bool, true, false, Option, Some, None, IfSome, is_some, option_map, List, [], ◌∷◌, ◌++◌, length, refl, ap, sym, subst, arith, length-append, ⊎_elim, ◌/◌, ◌≢◌, cond, filter}
use Rattle.activity_codec.specs.declared.values.Slot.{Slot}
use Rattle.trace_model.specs.declared.Card.{Card}
use Rattle.trace_model.specs.declared.Card.TheVariants.{A, B}
use Rattle.trace_model.specs.Trace.{TraceSecond}
use Rattle.tach_media.specs.Medium.{State}
use Rattle.tacho_types.specs.CardNumber.{card_number_bytes}
use Rattle.tacho_types.specs.declared.card_number.FullCardNumber.{FullCardNumber}
use Rattle.minute_rules.specs.Kept.{Kept}
use Rattle.tach_media.specs.card_layout.declared.files.Application.{Application}
use Rattle.tach_media.specs.card_layout.declared.files.TheConstants.{LARGEST_IMAGE}
use Rattle.device_calls.specs.card_image.Own.{own_sizes, IsOwnValid}
use Rattle.device_calls.specs.card_validity.declared.looking.CardLook.{CardLook}
use Rattle.device_calls.specs.card_validity.Judged.{IsLook}
use Rattle.device_calls.specs.device_rule.Rules.{Out}
use Rattle.log_model.specs.declared.lines.Find.{Find}
use Rattle.log_model.specs.declared.lines.Verdict.{Verdict}
use Rattle.log_model.specs.declared.lines.Verdict.TheVariants as verdict
use Rattle.log_model.specs.Log.{RunLog, In, cut_in, found_in, is_accepting}
use Rattle.log_model.specs.Slots.{other_slot}
use Rattle.log_model.specs.Course.{Visit, went}
use Rattle.run_acts.specs.unit_notes.Entries.{insertion_bytes}
use Rattle.device_calls.specs.note_model.Odometer.{SpanFrom}
use Rattle.device_calls.specs.note_model.Noted.{Acceptance}
use Rattle.device_calls.specs.safety_model.Recording.{card_image}
use Rattle.device_calls.specs.safety_model.Safe.{Devices}
use Rattle.device_calls.specs.hand_model.Holding.{none_held}
use Rattle.run_acts.specs.run_crew.declared.cards.Accepted.{Accepted}
use Rattle.run_acts.specs.run_crew.declared.cards.Cards.{Cards}
use Rattle.run_acts.specs.run_crew.declared.cabin.Cabin.{Cabin}
use Rattle.run_acts.specs.run_crew.Cards.{session_of}
use Rattle.run_acts.specs.run_crew.Cabin.{torn_out, with_accepted, with_sizes_of}
use Rattle.run_acts.specs.run_note_record.Opened.{HasComeBefore}
use Rattle.run_acts.specs.run_note_record.Moved.{moves_in}
use Rattle.recorder_with_cards.proofs.CameFirst.{came-first}
use Rattle.run_minutes.specs.run_promise.Found.{found_of}
use Rattle.run_minutes.specs.run_promise.Between.{RunLedger}
use Rattle.run_minutes.specs.run_devices.Strung.{HasSameHolder}
use Rattle.run_acts.specs.run_rings.Notes.{TellSameTo}
use Rattle.run_minutes.specs.run_devices.Told.{arranged, with_standing}
use Rattle.run_outcome.specs.declared.outcome.Outcome.{Outcome}
use Rattle.run_minutes.specs.run_promise.Origin.{Origin}
use Rattle.run_minutes.specs.run_promise.Beside.{HaveLeftMore}
use Rattle.run_acts.specs.run_note_record.Ringed.{Seating, one_behind, Since, since_in}
use Rattle.run_acts.specs.run_note_record.OnCards.{has_call_failed_in, CardsGo}
use Rattle.run_acts.specs.run_note_record.Sessions.{Opens}
use Rattle.run_acts.specs.run_note_record.RingsSoFar.{AreFewer}
use Rattle.run_minutes.specs.declared.keeper.Keeper.{Keeper}
use Rattle.run_minutes.specs.declared.keeper.Moment.{Moment as KeepingAt}
use Rattle.run_insertion.specs.declared.lines.Entering.{Entering}
use Rattle.run_insertion.specs.Entering.{Ending, Unfit, Ahead, Fell, Unasked, Unnoted, Seated, Lost, Way, Unread, Unsized, Judged, ending_of, sizes_by, measured, cabin_by, noted_by, and_one, insertion_of, find_of, finds_by}
use Rattle.run_insertion.specs.Entered.{FitsInsertion, IsFoundIn, IsWay}
use Rattle.run_insertion.specs.Told.{IsToldOf}
use Rattle.run_insertion.proofs.CardBrought.{IsSitting}
use Rattle.run_minutes.specs.Keeping.{tear_of}
use Rattle.run_acts.specs.run_record.Within.{RecordInSecond}
use Rattle.run_acts.specs.Entered.{values_with, MayJudge, HasGone, AreSound}
use Rattle.run_acts.specs.Recording.{IsOrigin, log_of}
use Rattle.run_acts.specs.Ringing.{seating_of}
use Rattle.run_acts.proofs.EnteredFacts.{before, mine-back, units, now-is, card-began, unit-told, known as known-behind, left}
use Rattle.run_acts.proofs.EnteredWhole.{found-in}
use Rattle.recorder_with_cards.specs.EnteredRings.{WritesBy}
use Rattle.recorder_with_cards.specs.JudgedRings.{JudgesIn, IsInsertionNow, AreSeatedWith, JudgedInRings, TellsHere, IsOdometerOf}
use Rattle.recorder_with_cards.proofs.EnteredAdds.{log_with}
use Rattle.recorder_with_cards.proofs.EnteredHolder.{insertion-now}
use Rattle.recorder_with_cards.proofs.EnteredLines.{TellsOf, verdicts_of, ending-tells, ending-here, tells-same}
use Rattle.run_acts.proofs.CardPlaces.{tear-failed}
use Rattle.recorder_with_cards.proofs.EnteredPlaces.{IsToldOpen, IsToldSure, judged-places, judged-opens}
use Rattle.recorder_with_cards.proofs.EnteredRings.{accept-writes}

-- ---- where the insertions of the accepted cards stand

abbrev pub seats_in : (noted : ℕ) → Cards → Card → Option Seating
seats_in noted cards c = option_map (seating_of noted) (session_of cards c)

-- what it told of its sizes changes nothing of that
measured-seats : (noted : ℕ) (which : Card) (sizes : Result Application ℕ) (cabin : Cabin) (c : Card) → seats_in noted (with_sizes_of which sizes cabin).cards c ≡ seats_in noted cabin.cards c
measured-seats noted A sizes cabin A = refl
measured-seats noted A sizes cabin B = refl
measured-seats noted B sizes cabin A = refl
measured-seats noted B sizes cabin B = refl

-- a card that is torn out has no session any more
torn-seats : (noted : ℕ) (which : Card) (second : ℕ) (cabin : Cabin) → AreFewer (seats_in noted cabin.cards) (seats_in noted (torn_out which second cabin).cards)
torn-seats noted A second cabin A = inr refl
torn-seats noted A second cabin B = inl refl
torn-seats noted B second cabin A = inl refl
torn-seats noted B second cabin B = inr refl

fewer-then : (a b c : Card → Option Seating) → ((x : Card) → b x ≡ a x) → AreFewer b c → AreFewer a c
fewer-then a b c same few x = by (few x)
  where
    by : (c x ≡ b x) ⊎ (c x ≡ None) → (c x ≡ a x) ⊎ (c x ≡ None)
    by (inl is) = inl (is ∙ same x)
    by (inr none) = inr none

-- one insertion more was noted, behind those of the others
more-behind : (noted : ℕ) → noted + 1 ≤ 2 ^ 64 - 1 → (s : Option Accepted) → IfSome s (λ a. a.noted ≤ noted) → option_map (seating_of (and_one noted)) s ≡ option_map one_behind (option_map (seating_of noted) s)
more-behind noted few None h = refl
more-behind noted few (Some a) h =
    let more : and_one noted - a.noted ≡ suc (noted - a.noted) = omega (arith, few, h) in
    ap (λ (n : ℕ). Some (record { index = a.entry; behind = n })) more

none-behind : (n : ℕ) (a : Accepted) → a.noted ≡ n → option_map (seating_of n) (Some a) ≡ Some (record { index = a.entry; behind = 0 })
none-behind n a is = let none : n - a.noted ≡ 0 = omega (arith, is) in ap (λ (k : ℕ). Some (record { index = a.entry; behind = k })) none

-- IT IS SEATED with its insertion
seated-seats : (which : Card) (slot : Slot) (number : FullCardNumber) (row : ℕ) (a : Accepted) (sizes : Result Application ℕ) (cabin : Cabin) (noted : ℕ) → a.noted ≡ and_one noted → noted + 1 ≤ 2 ^ 64 - 1 → ((c : Card) → IfSome (session_of cabin.cards c) (λ b. b.noted ≤ noted)) →
    AreSeatedWith which a.entry (seats_in noted cabin.cards) (seats_in (and_one noted) (with_accepted slot which number row a (with_sizes_of which sizes cabin)).cards)
seated-seats A slot number row a sizes cabin noted own few others A = inr (refl, none-behind (and_one noted) a own)
seated-seats A slot number row a sizes cabin noted own few others B = inl (refl, more-behind noted few (session_of cabin.cards B) (others B))
seated-seats B slot number row a sizes cabin noted own few others A = inl (refl, more-behind noted few (session_of cabin.cards A) (others A))
seated-seats B slot number row a sizes cabin noted own few others B = inr (refl, none-behind (and_one noted) a own)

-- ---- BY WHAT BECAME OF IT

module _ (o : Since) (d later : Devices) (e : Entering) (u : ℕ) (spans : List SpanFrom) (noted : ℕ) (cabin : Cabin) (sizes : Result Application ℕ) (others : (c : Card) → IfSome (session_of cabin.cards c) (λ b. b.noted ≤ noted)) where
  abbrev a : Acceptance
  a = record { second = u; slot = e.slot; card = e.which }

  abbrev here : Cabin
  here = with_sizes_of e.which sizes cabin

  -- what is to be known of an ending: of a card that is accepted, its insertion
  abbrev pub IsToldSo : (failed : Bool) → Ending → Type 0
  IsToldSo failed (Unfit fid place) = Unit {0}
  IsToldSo failed (Ahead stored) = Unit {0}
  IsToldSo failed Fell = Unit {0}
  IsToldSo failed Unasked = Unit {0}
  IsToldSo failed (Unnoted entered clock) = (failed ≡ true) × IsInsertionNow o (record { second = u; slot = e.slot; card = e.which }) spans later (insertion_bytes (insertion_of entered.look e))
  IsToldSo failed (Seated entered clock entry) = (noted + 1 ≤ 2 ^ 64 - 1) × IsInsertionNow o (record { second = u; slot = e.slot; card = e.which }) spans later (insertion_bytes (insertion_of entered.look e))
  IsToldSo failed (Lost entered clock entry) = (noted + 1 ≤ 2 ^ 64 - 1) × IsInsertionNow o (record { second = u; slot = e.slot; card = e.which }) spans later (insertion_bytes (insertion_of entered.look e))

  still : AreFewer (seats_in noted cabin.cards) (seats_in noted (with_sizes_of e.which sizes cabin).cards)
  still c = inl (measured-seats noted e.which sizes cabin c)

  fell : AreFewer (seats_in noted cabin.cards) (seats_in noted (torn_out e.which e.at.second (with_sizes_of e.which sizes cabin)).cards)
  fell = fewer-then (seats_in noted cabin.cards) (seats_in noted (with_sizes_of e.which sizes cabin).cards) (seats_in noted (torn_out e.which e.at.second (with_sizes_of e.which sizes cabin)).cards)
      (measured-seats noted e.which sizes cabin) (torn-seats noted e.which e.at.second (with_sizes_of e.which sizes cabin))

  pub ending-rings : (failed : Bool) (ending : Ending) → IsToldSo failed ending → WritesBy ending e failed d.unit later.unit →
      JudgedInRings failed o (record { second = u; slot = e.slot; card = e.which }) (verdicts_of ending e) spans (seats_in noted cabin.cards) (seats_in (noted_by ending noted) (cabin_by ending e noted (with_sizes_of e.which sizes cabin)).cards) d later
  ending-rings false (Unfit fid place) told writes = inl (record { none = refl; stays = writes; fewer_sit = still })
  ending-rings true (Unfit fid place) told writes = inl (refl, writes)
  ending-rings false (Ahead stored) told writes = inl (record { none = refl; stays = writes; fewer_sit = still })
  ending-rings true (Ahead stored) told writes = inl (refl, writes)
  ending-rings false Fell told writes = inl (record { none = refl; stays = writes; fewer_sit = fell })
  ending-rings true Fell told writes = inl (refl, writes)
  ending-rings false Unasked told writes = inl (record { none = refl; stays = writes; fewer_sit = still })
  ending-rings true Unasked told writes = inl (refl, writes)
  ending-rings false (Unnoted entered clock) told writes = absurd (let wrong : false ≡ true = told.0 in cc)
  ending-rings true (Unnoted entered clock) told writes =
      inr (record { verdict = verdict.Accepted entered.replayed; found = refl; accepting = refl; head = insertion_bytes (insertion_of entered.look e); inserts = told.1; writes = writes })
  ending-rings false (Seated entered clock entry) told writes = inr (record {
    verdict = verdict.Accepted entered.replayed;
    found = refl;
    accepting = refl;
    head = insertion_bytes (insertion_of entered.look e);
    index = entry;
    inserts = told.1;
    writes = writes;
    now = seats_in (and_one noted) (cabin_by (Seated entered clock entry) e noted (with_sizes_of e.which sizes cabin)).cards;
    seated = seated-seats e.which e.slot entered.look.number entered.row (record { session = entered.session; held = none_held (e.at.second / 60); entry = entry; noted = and_one noted }) sizes cabin noted refl told.0 others;
    fewer_sit = λ c. inl refl;
  })
  ending-rings true (Seated entered clock entry) told writes =
      inr (record { verdict = verdict.Accepted entered.replayed; found = refl; accepting = refl; head = insertion_bytes (insertion_of entered.look e); inserts = told.1; writes = writes })
  ending-rings false (Lost entered clock entry) told writes = inr (record {
    verdict = verdict.Accepted entered.replayed;
    found = refl;
    accepting = refl;
    head = insertion_bytes (insertion_of entered.look e);
    index = entry;
    inserts = told.1;
    writes = writes;
    now = seats_in (and_one noted) (cabin_by (Seated entered clock entry) e noted (with_sizes_of e.which sizes cabin)).cards;
    seated = seated-seats e.which e.slot entered.look.number entered.row (record { session = entered.session; held = none_held (e.at.second / 60); entry = entry; noted = and_one noted }) sizes cabin noted refl told.0 others;
    fewer_sit = torn-seats (and_one noted) e.which e.at.second (cabin_by (Seated entered clock entry) e noted (with_sizes_of e.which sizes cabin));
  })
  ending-rings true (Lost entered clock entry) told writes =
      inr (record { verdict = verdict.Accepted entered.replayed; found = refl; accepting = refl; head = insertion_bytes (insertion_of entered.look e); inserts = told.1; writes = writes })

-- no more insertions were noted than finds are told
one-more : (n : ℕ) → and_one n ≤ n + 1
one-more n = omega arith

noted-few : (ending : Ending) (e : Entering) (log : RunLog) (noted : ℕ) → noted ≤ length log.finds → noted_by ending noted ≤ length (log.finds ++ finds_by ending e)
noted-few (Unfit fid place) e log noted le = omega (arith, le, length-append log.finds (finds_by (Unfit fid place) e))
noted-few (Ahead stored) e log noted le = omega (arith, le, length-append log.finds (finds_by (Ahead stored) e))
noted-few Fell e log noted le = omega (arith, le, length-append log.finds (finds_by Fell e))
noted-few Unasked e log noted le = omega (arith, le, length-append log.finds (finds_by Unasked e))
noted-few (Unnoted entered clock) e log noted le = omega (arith, le, length-append log.finds (finds_by (Unnoted entered clock) e))
noted-few (Seated entered clock entry) e log noted le = let one = one-more noted in omega (arith, le, one, length-append log.finds (finds_by (Seated entered clock entry) e))
noted-few (Lost entered clock entry) e log noted le = let one = one-more noted in omega (arith, le, one, length-append log.finds (finds_by (Lost entered clock entry) e))

-- ---- IT IS JUDGED

pub record IsRinged (o : Since) (s : TraceSecond) (n : ℕ) (e : Entering) (spans : List SpanFrom) (noted noted' : ℕ) (k k' : Keeper) (out out' : Outcome) (failed : Bool) (d later : Devices) : Type 0 where
  pub rings : JudgedInRings failed o (record { second = s.number; slot = e.slot; card = e.which }) (found_in (log_of out') s.number (In n) e.slot) spans (seats_in noted k.cabin.cards) (seats_in noted' k'.cabin.cards) d later
  pub others : found_in (log_of out') s.number (In n) (other_slot e.slot) ≡ found_in (log_of out) s.number (In n) (other_slot e.slot)
  pub here : TellsHere (log_of out) (log_of out') s.number
  pub cut : cut_in (log_of out') s.number ≡ cut_in (log_of out) s.number
  pub same : (x : ℕ) → n ≡ suc x → TellSameTo (log_of out) (log_of out') s.number x
  pub left : HaveLeftMore o.origin d later
  pub places : CardsGo o.origin spans (JudgesIn failed (log_of out') (record { second = s.number; slot = e.slot; card = e.which }) (found_in (log_of out') s.number (In n) e.slot)) d later
  pub opens : failed ≡ false → (v : Verdict) → found_in (log_of out') s.number (In n) e.slot ≡ v ∷ [] → is_accepting v ≡ true → Opens o.origin (log_of out') (record { second = s.number; slot = e.slot; card = e.which }) later
  pub counted : noted' ≤ length (log_of out').finds

module _ (o : Origin) (done : List TraceSecond) (s : TraceSecond) (n : ℕ) (waits fewer : List Visit) (e : Entering) (k : Keeper) (out : Outcome) (unfound next_ begun : ℕ) (minutes : Kept) (U X Z : State) (w : RecordInSecond o done s (In n) waits None [] (values_with k out unfound next_ begun minutes) (arranged e.which U X Z)) (m : MayJudge o done s n waits fewer e k out unfound next_ begun minutes U X Z w)
    (origin : IsOrigin o) (small : s.number < 2 ^ 32) (few : e.odometer.0 < 2 ^ 24) (spans : List SpanFrom) (odometer : IsOdometerOf spans s.number e.odometer.0) (noted : ℕ) (counted : noted ≤ length (log_of out).finds) (others : (c : Card) → IfSome (session_of k.cabin.cards c) (λ b. b.noted ≤ noted))
    (failed : Bool) (k' : Keeper) (noted' : ℕ) (out' : Outcome) (W Y : State) (way : Way) (g : HasGone e failed k k' noted noted' out out' U W X Y Z way) (sound : AreSound U W X Y) (told_few : length (log_of out').finds < 2 ^ 64) (sized : LARGEST_IMAGE ≤ X.size) (works : IsSitting (ending_of way) → Y.works ≡ true) where
  second : e.at.second ≡ s.number
  second = now-is o done s n waits fewer e k out unfound next_ begun minutes U X Z w m

  begun-is : e.at.begun ≡ n
  begun-is = ap (λ (q : KeepingAt). q.begun) m.moment

  early : e.at.late ≡ false
  early = ap (λ (q : KeepingAt). q.late) m.moment

  more : HaveLeftMore o (arranged e.which U X Z) (arranged e.which W Y Z)
  more = left o done s n waits fewer e k out unfound next_ begun minutes U X Z w m failed k' noted noted' out' W Y way g sound

  -- the lines
  log-is : log_of out' ≡ log_with (ending_of way) e (log_of out)
  log-is = ap log_of g.entered.left.outcome

  tells : TellsOf (log_of out) (log_of out') s.number n e.slot (verdicts_of (ending_of way) e)
  tells =
      subst (λ (l : RunLog). TellsOf (log_of out) l s.number n e.slot (verdicts_of (ending_of way) e)) (sym log-is)
      (subst (λ (x : ℕ). TellsOf (log_of out) (log_with (ending_of way) e (log_of out)) s.number x e.slot (verdicts_of (ending_of way) e)) begun-is
      (subst (λ (x : ℕ). TellsOf (log_of out) (log_with (ending_of way) e (log_of out)) x e.at.begun e.slot (verdicts_of (ending_of way) e)) second
      (ending-tells (ending_of way) e (log_of out) early)))

  others-found : found_in (log_of out') s.number (In n) (other_slot e.slot) ≡ found_in (log_of out) s.number (In n) (other_slot e.slot)
  others-found = tells.others

  tells-here : TellsHere (log_of out) (log_of out') s.number
  tells-here = subst (λ (l : RunLog). TellsHere (log_of out) l s.number) (sym log-is) (subst (λ (u : ℕ). TellsHere (log_of out) (log_with (ending_of way) e (log_of out)) u) second (ending-here (ending_of way) e (log_of out)))

  same-before : (x : ℕ) → n ≡ suc x → TellSameTo (log_of out) (log_of out') s.number x
  same-before x is = tells-same (log_of out) (log_of out') s.number x e.slot (verdicts_of (ending_of way) e) w.moment.up_to.uncut
      (subst (λ (y : ℕ). TellsOf (log_of out) (log_of out') s.number y e.slot (verdicts_of (ending_of way) e)) is tells)

  counted-then : noted' ≤ length (log_of out').finds
  counted-then =
      let now : noted_by (ending_of way) noted ≤ length (log_with (ending_of way) e (log_of out)).finds = noted-few (ending_of way) e (log_of out) noted counted in
      let is = ap (λ (l : RunLog). length l.finds) log-is in
      let count = g.entered.left.count in
      omega (arith, now, is, count)

  -- what was found of it, by an image that a stop might have left of the card
  y : (x : List ℕ) × X.may_leave x × IsFoundIn e.at.second U.image way x
  y = found-in o done s n waits fewer e k out unfound next_ begun minutes U X Z w m failed k' noted noted' out' W Y way g sound

  y-left : X.left_since (found_of o.found e.which).began y.0
  y-left = sound.card_before.counts_now (found_of o.found e.which).began y.0 (card-began o done s n waits fewer e k out unfound next_ begun minutes U X Z w m) y.1

  -- that of the start, or it has come before
  first-or : (y.0 ≡ card_image o.recording e.which) ⊎ HasComeBefore (went w.b.run.log done).told (done ++ s ∷ []) e.which s.number
  first-or = ⊎_elim (λ whole. inl (whole y.0 y.1)) (λ come. inr come) (came-first o done s n waits fewer e k out unfound next_ begun minutes U X Z w m sound.card_before)

  abbrev standing : RunLedger
  standing = with_standing e.which Out (before o done s n waits fewer e k out unfound next_ begun minutes U X Z w m)

  told : IsToldOf (ending_of way) o.found standing e U X
  told = (known-behind o done s n waits fewer e k out unfound next_ begun minutes U X Z w m failed k' noted noted' out' W Y way g sound).told

  abbrev Told : Way → Type 0
  Told v = IsToldSo (since_in o w.b.run.log done s) (arranged e.which U X Z) (arranged e.which W Y Z) e s.number spans noted k.cabin (sizes_by way) others failed (ending_of v)

  -- its insertion
  module _ (app : Application) (look : CardLook) (sizes : own_sizes y.0 ≡ app) (is : IsLook app y.0 look) (fits : FitsInsertion look) (valid : IsOwnValid (found_of o.found e.which).image) (named : card_number_bytes look.number ≡ (found_of o.found e.which).number) where
    of-holder : HasSameHolder (found_of o.found e.which).image y.0
    of-holder = (w.powered.go.held e.which valid).still y.0 (mine-back e.which U X Z (λ (q : State). q.left_since (found_of o.found e.which).began y.0) y-left)

    inserts : IsInsertionNow (since_in o w.b.run.log done s) (record { second = s.number; slot = e.slot; card = e.which }) spans (arranged e.which W Y Z) (insertion_bytes (insertion_of look e))
    inserts = insertion-now o origin e look app y.0 sizes is fits (subst IsOwnValid (origin.image e.which) valid) of-holder named (went w.b.run.log done).told (done ++ s ∷ []) (moves_in w.b.run.log done) s.number first-or (arranged e.which W Y Z)
        (more.card e.which y.0 (mine-back e.which U X Z (λ (q : State). q.left_since (found_of o.found e.which).began y.0) y-left)) second small spans odometer.at few

  room : (x : Find) → length (log_of out').finds ≡ length ((log_of out).finds ++ x ∷ []) → noted + 1 ≤ 2 ^ 64 - 1
  room x is = omega (arith, is, told_few, counted, length-append (log_of out).finds (x ∷ []))

  way-told : (v : Way) → IsWay v k.memory.registration e failed U.image X Y → IsFoundIn e.at.second U.image v y.0 → IsToldOf (ending_of v) o.found standing e U X → length (log_of out').finds ≡ length ((log_of out).finds ++ finds_by (ending_of v) e) → Told v
  way-told Unread is found_ told_ len = tt
  way-told (Unsized field) is found_ told_ len = tt
  way-told (Judged app (Unfit fid place)) is found_ told_ len = tt
  way-told (Judged app (Ahead stored)) is found_ told_ len = tt
  way-told (Judged app Fell) is found_ told_ len = tt
  way-told (Judged app Unasked) is found_ told_ len = tt
  way-told (Judged app (Unnoted entered clock)) is found_ told_ len = (is.0, inserts app entered.look found_.0 found_.1.looked is.1.sized told_.valid told_.named)
  way-told (Judged app (Seated entered clock entry)) is found_ told_ len = (room (find_of e (verdict.Accepted entered.replayed)) len, inserts app entered.look found_.0 found_.1.looked is.1.sized told_.valid told_.named)
  way-told (Judged app (Lost entered clock entry)) is found_ told_ len = (room (find_of e (verdict.Accepted entered.replayed)) len, inserts app entered.look found_.0 found_.1.looked is.1.sized told_.valid told_.named)

  writes : WritesBy (ending_of way) e failed (arranged e.which U X Z).unit (arranged e.which W Y Z).unit
  writes =
      let u = unit-told o done s n waits fewer e k out unfound next_ begun minutes U X Z w m in
      units e.which U W X Y Z (λ (p q : State). WritesBy (ending_of way) e failed p q)
      (accept-writes U W X Y sound.unit_before sound.unit_behind e failed k k' noted noted' out out' way (ap (λ (q : Option (List ℕ)). is_some q) u.1) g.cause g.entered)

  -- SO ITS RINGS ARE WRITTEN
  judged-rings : JudgedInRings failed (since_in o w.b.run.log done s) (record { second = s.number; slot = e.slot; card = e.which }) (found_in (log_of out') s.number (In n) e.slot) spans (seats_in noted k.cabin.cards) (seats_in noted' k'.cabin.cards) (arranged e.which U X Z) (arranged e.which W Y Z)
  judged-rings =
      let d : Devices = arranged e.which U X Z in
      let later : Devices = arranged e.which W Y Z in
      let a : Acceptance = record { second = s.number; slot = e.slot; card = e.which } in
      let cabin : Cabin = cabin_by (ending_of way) e noted (measured way e k).cabin in
      let len = ap (λ (l : RunLog). length l.finds) log-is in
      subst (λ (vs : List Verdict). JudgedInRings failed (since_in o w.b.run.log done s) a vs spans (seats_in noted k.cabin.cards) (seats_in noted' k'.cabin.cards) d later) (sym (tells.own ∙ ap (λ (vs : List Verdict). vs ++ verdicts_of (ending_of way) e) m.none))
      (subst (λ (q : Cabin). JudgedInRings failed (since_in o w.b.run.log done s) a (verdicts_of (ending_of way) e) spans (seats_in noted k.cabin.cards) (seats_in noted' q.cards) d later) (sym (ap (λ (q : Keeper). q.cabin) g.entered.left.keeper))
      (subst (λ (x : ℕ). JudgedInRings failed (since_in o w.b.run.log done s) a (verdicts_of (ending_of way) e) spans (seats_in noted k.cabin.cards) (seats_in x cabin.cards) d later) (sym g.entered.left.count)
      (ending-rings (since_in o w.b.run.log done s) d later e s.number spans noted k.cabin (sizes_by way) others failed (ending_of way) (way-told way g.entered.is y.2 told len) writes)))

  -- in which it was called: it is accepted, or a call failed
  abbrev FailsWhere : Ending → Type 0
  FailsWhere (Unfit fid place) = Unit {0}
  FailsWhere (Ahead stored) = Unit {0}
  FailsWhere Fell = Unit {0}
  FailsWhere Unasked = Unit {0}
  FailsWhere (Unnoted entered clock) = failed ≡ true
  FailsWhere (Seated entered clock entry) = Unit {0}
  FailsWhere (Lost entered clock entry) = Unit {0}

  way-fails : (v : Way) → IsWay v k.memory.registration e failed U.image X Y → FailsWhere (ending_of v)
  way-fails Unread is = tt
  way-fails (Unsized field) is = tt
  way-fails (Judged app (Unfit fid place)) is = tt
  way-fails (Judged app (Ahead stored)) is = tt
  way-fails (Judged app Fell) is = tt
  way-fails (Judged app Unasked) is = tt
  way-fails (Judged app (Unnoted entered clock)) is = is.0
  way-fails (Judged app (Seated entered clock entry)) is = tt
  way-fails (Judged app (Lost entered clock entry)) is = tt

  found-are : found_in (log_of out') s.number (In n) e.slot ≡ verdicts_of (ending_of way) e
  found-are = tells.own ∙ ap (λ (vs : List Verdict). vs ++ verdicts_of (ending_of way) e) m.none

  -- a card that is torn out has failed
  fell-failed : (front : RunLog) → has_call_failed_in (record front { breaks = front.breaks ++ tear_of e.slot e.at ∷ [] }) s.number ≡ true
  fell-failed front = subst (λ (u : ℕ). has_call_failed_in (record front { breaks = front.breaks ++ tear_of e.slot e.at ∷ [] }) u ≡ true) second (tear-failed front e.slot e.at)

  fell-told : (q : Ending) → ending_of way ≡ q → has_call_failed_in (log_with q e (log_of out)) s.number ≡ true → has_call_failed_in (log_of out') s.number ≡ true
  fell-told q is told = ap (λ (l : RunLog). has_call_failed_in l s.number) (log-is ∙ ap (λ (q : Ending). log_with q e (log_of out)) is) ∙ told

  open-told : IsToldOpen (log_of out') s.number failed (found_in (log_of out') s.number (In n) e.slot) (ending_of way)
  open-told = subst (λ (vs : List Verdict). IsToldOpen (log_of out') s.number failed vs (ending_of way)) (sym found-are) (by (ending_of way) refl (way-fails way g.entered.is))
    where
      by : (q : Ending) → ending_of way ≡ q → FailsWhere q → IsToldOpen (log_of out') s.number failed (verdicts_of q e) q
      by (Unfit fid place) is fails = tt
      by (Ahead stored) is fails = tt
      by Fell is fails = fell-told Fell is (fell-failed (record (log_of out) { finds = (log_of out).finds ++ finds_by Fell e }))
      by Unasked is fails = tt
      by (Unnoted entered clock) is fails = ((λ none. let wrong : verdict.Accepted entered.replayed ∷ [] ≡ [] = none in cc), fails)
      by (Seated entered clock entry) is fails = λ none. let wrong : verdict.Accepted entered.replayed ∷ [] ≡ [] = none in cc
      by (Lost entered clock entry) is fails = (
        (λ none. let wrong : verdict.Accepted entered.replayed ∷ [] ≡ [] = none in cc),
        fell-told (Lost entered clock entry) is (fell-failed (record (log_of out) { finds = (log_of out).finds ++ finds_by (Lost entered clock entry) e })),
      )

  -- where it is accepted
  sure-told : filter is_accepting (found_in (log_of out') s.number (In n) e.slot) ≢ [] → IsToldSure (log_of out') s.number failed (ending_of way)
  sure-told some = by (ending_of way) refl (subst (λ (vs : List Verdict). filter is_accepting vs ≢ []) found-are some) (way-fails way g.entered.is)
    where
      by : (q : Ending) → ending_of way ≡ q → filter is_accepting (verdicts_of q e) ≢ [] → FailsWhere q → IsToldSure (log_of out') s.number failed q
      by (Unfit fid place) is any fails = any refl
      by (Ahead stored) is any fails = any refl
      by Fell is any fails = any refl
      by Unasked is any fails = any refl
      by (Unnoted entered clock) is any fails = fails
      by (Seated entered clock entry) is any fails = tt
      by (Lost entered clock entry) is any fails = fell-told (Lost entered clock entry) is (fell-failed (record (log_of out) { finds = (log_of out).finds ++ finds_by (Lost entered clock entry) e }))

  opens-so : failed ≡ false → (v : Verdict) → found_in (log_of out') s.number (In n) e.slot ≡ v ∷ [] → is_accepting v ≡ true → Opens o (log_of out') (record { second = s.number; slot = e.slot; card = e.which }) (arranged e.which W Y Z)
  opens-so well v found accepting =
      judged-opens o done s n waits fewer e k out unfound next_ begun minutes U X Z w m origin failed k' noted noted' out' W Y way g sound sized spans odometer.reads second small open-told works well (sure-told some)
    where
      some : filter is_accepting (found_in (log_of out') s.number (In n) e.slot) ≢ []
      some none = let wrong : v ∷ [] ≡ [] = sym (ap (λ (b : Bool). cond b (v ∷ []) []) accepting) ∙ sym (ap (filter is_accepting) found) ∙ none in cc

  -- all of it
  pub judged-ringed : IsRinged (since_in o w.b.run.log done s) s n e spans noted noted' k k' out out' failed (arranged e.which U X Z) (arranged e.which W Y Z)
  judged-ringed = record { rings = judged-rings; others = others-found; here = tells-here; cut = tells.cut; same = same-before; left = more; places = judged-places o done s n waits fewer e k out unfound next_ begun minutes U X Z w m origin failed k' noted noted' out' W Y way g sound sized spans odometer.reads second small open-told works; opens = opens-so; counted = counted-then }
