-- A card that is found to tell of a later time: it did so at the start, or it was put in before in the minute, and its closing word stands in the
-- minute behind.
use Rattle.std.proofs.Common.{◌≡◌, ◌⊎◌, inl, inr, ⊎_elim, ℕ, suc, ◌*◌, ◌/◌, ◌≤◌, ◌<◌, max, min, Bool, true, false, cond, ◌&&◌, Option, None, List, [], ◌∷◌, ◌++◌, All, length, refl, ap, sym, subst, ◌∙◌, arith, length-append}
use Rattle.std.specs.Prelude.{nat_eq, nat_le, filter, flat_map}
use Rattle.std.proofs.lemmas.Bool.{cases_lt}
use Rattle.std.proofs.lemmas.Bool.Decides.{nat_tests}
use Rattle.activity_codec.specs.declared.entries.Entry.{Entry}
use Rattle.trace_model.specs.declared.Card.{Card}
use Rattle.trace_model.specs.declared.Card.TheVariants.{A, B}
use Rattle.trace_model.specs.Trace.{TraceSecond}
use Rattle.tach_media.specs.Medium.{State, IsCoherent}
use Rattle.minute_rules.specs.Kept.{Kept}
use Rattle.unit_model.specs.minute_model.Activity.{last}
use Rattle.hand_model.specs.card_image.Fields.{session_time, last_use, card_days}
use Rattle.device_calls.specs.card_retention.Entries.{newest_word}
use Rattle.device_calls.specs.card_session.declared.words.TheConstants.{LATEST_MINUTE}
use Rattle.run_crew.specs.declared.cards.Accepted.{Accepted as Session}
use Rattle.hand_model.specs.card_image.View.{CardView}
use Rattle.hand_model.specs.card_image.Own.{own_sizes, own_view, IsOwnValid}
use Rattle.device_calls.proofs.card_session.NewestStays.{view_word}
use Rattle.device_calls.proofs.card_session.Renewing.{stored_least, stored_open, stored_shut}
use Rattle.device_calls.specs.Times.{own_use, IsTimed}
use Rattle.device_calls.proofs.TimedCalls.{use-is}
use Rattle.device_calls.proofs.OnCard.{own-is, session-is, mark-is}
use Rattle.log_model.specs.Log.{In}
use Rattle.log_model.specs.Slots.{same_card}
use Rattle.log_model.specs.Course.{ToldSecond, Visit}
use Rattle.device_calls.specs.history_model.Minutes.{card_history, up_to}
use Rattle.device_calls.specs.history_model.Presence.{CardStart, closed_at}
use Rattle.device_calls.specs.history_model.Book.{all}
use Rattle.device_calls.specs.device_rule.Rules.{Meets}
use Rattle.device_calls.specs.device_rule.Views.{UnitView, unit_view, owed, newest_with, beyond}
use Rattle.device_calls.proofs.device_rule.Pairs.{mark-newest}
use Rattle.device_calls.specs.safety_model.Recording.{Recording, card_image, told_of}
use Rattle.device_calls.specs.safety_model.Safe.{entered_by}
use Rattle.run_minutes.specs.run_promise.Found.{found_of, AnyKept}
use Rattle.run_minutes.proofs.run_promise.Behind.{own-marked}
use Rattle.run_events.specs.run_course.Seconds.{kept_all}
use Rattle.run_events.specs.run_course.Lines.{times_of}
use Rattle.run_minutes.specs.run_devices.Told.{arranged}
use Rattle.run_minutes.proofs.run_devices.Opened.{owed-none}
use Rattle.run_minutes.proofs.run_devices.Parts.{CardLit}
use Rattle.run_outcome.specs.declared.outcome.Outcome.{Outcome}
use Rattle.run_minutes.specs.run_promise.Origin.{Origin}
use Rattle.run_minutes.specs.run_promise.Ends.{recording_by}
use Rattle.run_minutes.specs.declared.keeper.Keeper.{Keeper}
use Rattle.run_insertion.specs.declared.lines.Entering.{Entering}
use Rattle.run_record.specs.Within.{course_in, often, MayBeWrittenSo, RecordInSecond}
use Rattle.run_acts.specs.Entered.{values_with, MayJudge}
use Rattle.run_acts.proofs.EnteredFacts.{mine, was, now-is, unit-told, card-began}
use Rattle.run_acts.proofs.EnteredNewest.{trimmed-most, closed-up, mark-low, beyond-low, brought-part, few-now}

-- ---- how often a card entered in a minute, by an earlier second of it

both-true : (a b c d : Bool) → (a ≡ true → c ≡ true) → (b ≡ true → d ≡ true) → (a && b) ≡ true → (c && d) ≡ true
both-true true true c d one two is = ap (λ (x : Bool). x && d) (one refl) ∙ two refl
both-true true false c d one two is = absurd (cc)
both-true false b c d one two is = absurd (cc)

abbrev entered_in_ : Card → ToldSecond → List Visit
entered_in_ card x = filter (λ (v : Visit). same_card card v.card) x.course.entered

abbrev here : ℕ → ToldSecond → Bool
here n x = nat_le x.second.number n && nat_eq (x.second.number / 60) (n / 60)

pub entered-later : (r : Recording) (card : Card) (t u : ℕ) → t ≤ u → t / 60 ≡ u / 60 → entered_by r card t ≤ entered_by r card u
entered-later r card t u le minute = by (told_of r)
  where
    up : (x : ToldSecond) → here t x ≡ true → here u x ≡ true
    up x is = both-true (nat_le x.second.number t) (nat_eq (x.second.number / 60) (t / 60)) (nat_le x.second.number u) (nat_eq (x.second.number / 60) (u / 60))
        (λ a. grind (arith, nat_tests)) (λ b. grind (arith, nat_tests)) is

    one : (x : ToldSecond) → length (cond (here t x) (entered_in_ card x) []) ≤ length (cond (here u x) (entered_in_ card x) [])
    one x = go (here t x) (here u x) (up x)
      where
        go : (a b : Bool) → (a ≡ true → b ≡ true) → length (cond a (entered_in_ card x) []) ≤ length (cond b (entered_in_ card x) [])
        go false b imp = omega arith
        go true true imp = omega arith
        go true false imp = absurd (let e : false ≡ true = imp refl in cc)

    by : (told : List ToldSecond) → length (flat_map (λ (x : ToldSecond). cond (here t x) (entered_in_ card x) []) told) ≤ length (flat_map (λ (x : ToldSecond). cond (here u x) (entered_in_ card x) []) told)
    by [] = omega arith
    by (x ∷ told) =
        let first = one x in
        let rest = by told in
        let a = length-append (cond (here t x) (entered_in_ card x) []) (flat_map (λ (x : ToldSecond). cond (here t x) (entered_in_ card x) []) told) in
        let b = length-append (cond (here u x) (entered_in_ card x) []) (flat_map (λ (x : ToldSecond). cond (here u x) (entered_in_ card x) []) told) in
        omega (arith, first, rest, a, b)

-- ---- the stored time of an image, by its last use, its end mark and its newest word

pub record Stores (x : List ℕ) : Type 0 where
  pub mark : (own_view x).mark ≡ own_use x / 60
  pub open_ : ((own_view x).session ≡ 0 → ⊥) → (own_view x).stored ≡ own_use x
  pub shut : (own_view x).session ≡ 0 → (own_view x).stored ≡ max (own_use x) (min 4294967295 (60 * (own_view x).word))

pub stores : (x : List ℕ) → Stores x
stores x =
    let app = own_sizes x in
    let same = own-is app x refl in
    let session : (own_view x).session ≡ session_time app x = ap (λ (v : CardView). v.session) same ∙ session-is app x in
    let used : own_use x ≡ last_use app x = use-is app x refl in
    record {
      mark = ap (λ (v : CardView). v.mark) same ∙ mark-is app x ∙ ap (λ (k : ℕ). k / 60) (sym used);
      open_ = λ some. ap (λ (v : CardView). v.stored) same ∙ stored_open app x (apart (session_time app x) (λ none. some (session ∙ none))) ∙ sym used;
      shut = λ none.
          ap (λ (v : CardView). v.stored) same ∙ stored_shut app x (ap (λ (k : ℕ). nat_eq k 0) (sym session ∙ none))
          ∙ ap (λ (k : ℕ). max k (min 4294967295 (60 * newest_word (card_days (own_sizes x) x)))) (sym used) ∙ ap (λ (k : ℕ). max (own_use x) (min 4294967295 (60 * k))) (sym (ap (λ (v : CardView). v.word) same ∙ view_word app x));
    }
  where
    apart : (k : ℕ) → (k ≡ 0 → ⊥) → nat_eq k 0 ≡ false
    apart k some = by (nat_eq k 0) refl
      where
        by : (b : Bool) → nat_eq k 0 ≡ b → nat_eq k 0 ≡ false
        by false is = is
        by true is = let zero : k ≡ 0 = grind (arith, nat_tests, is) in absurd (some zero)

-- ---- it tells of a later time

module _ (o : Origin) (done : List TraceSecond) (s : TraceSecond) (n : ℕ) (waits fewer : List Visit) (e : Entering) (k : Keeper) (out : Outcome) (unfound next_ begun : ℕ) (minutes : Kept) (U X Z : State) (w : RecordInSecond o done s (In n) waits None [] (values_with k out unfound next_ begun minutes) (arranged e.which U X Z)) (m : MayJudge o done s n waits fewer e k out unfound next_ begun minutes U X Z w) (coherent : IsCoherent X) (whole_unit : IsCoherent U) (y : List ℕ) (there : X.may_leave y) (late : s.number < (own_view y).stored) (may : MayBeWrittenSo o w.b done (course_in w.b done s (In n) (values_with k out unfound next_ begun minutes).log) waits s.number k.cabin.slots e.which) where
  abbrev img : List ℕ
  img = card_image o.recording e.which

  valid-found : IsOwnValid (found_of o.found e.which).image
  valid-found = subst IsOwnValid (sym (m.origin.image e.which)) may.valid

  one : CardLit o.found (kept_all w.new w.b.run.book) (w.standing e.which) (w.hands e.which) (w.firsts e.which) (w.brought e.which) None e.which U X
  one = subst (λ (q : Option Session). CardLit o.found (kept_all w.new w.b.run.book) (w.standing e.which) (w.hands e.which) (w.firsts e.which) (w.brought e.which) q e.which U X) m.bare ((was o done s n waits fewer e k out unfound next_ begun minutes U X Z w m).mine valid-found)

  abbrev u : UnitView
  u = unit_view o.found.card_a.number o.found.card_b.number (unit-told o done s n waits fewer e k out unfound next_ begun minutes U X Z w m).0

  abbrev v : CardView
  v = own_view y

  meets : Meets e.which (found_of o.found e.which).start AnyKept (all (kept_all w.new w.b.run.book)) (w.standing e.which) u v
  meets = one.rule.dark.meets u v ((unit-told o done s n waits fewer e k out unfound next_ begun minutes U X Z w m).0, whole_unit.is_left (unit-told o done s n waits fewer e k out unfound next_ begun minutes U X Z w m).0 (unit-told o done s n waits fewer e k out unfound next_ begun minutes U X Z w m).1, refl) (y, there, refl)

  -- its last use
  timed : IsTimed (found_of o.found e.which).image y
  timed = mine e.which U X Z (λ (a : State). ((x : List ℕ) → a.left_since (found_of o.found e.which).began x → IsTimed (found_of o.found e.which).image x) → a.left_since (found_of o.found e.which).began y → IsTimed (found_of o.found e.which).image y) (λ all_ left. all_ y left)
      (mine-timed) (coherent.counts_now (found_of o.found e.which).began y (card-began o done s n waits fewer e k out unfound next_ begun minutes U X Z w m) there)
    where
      mine-timed : (x : List ℕ) → X.left_since (found_of o.found e.which).began x → IsTimed (found_of o.found e.which).image x
      mine-timed = mine e.which U X Z (λ (a : State). (x : List ℕ) → a.left_since (found_of o.found e.which).began x → IsTimed (found_of o.found e.which).image x) (w.there.timed e.which valid-found)

  abbrev st : CardStart
  st = (found_of o.found e.which).start

  -- what it brings
  start-mark : st.mark ≡ (own_view img).mark
  start-mark = ap (λ (t : CardStart). t.mark) (m.origin.start e.which)

  start-word : st.word ≡ beyond (own_view img)
  start-word = ap (λ (t : CardStart). t.word) (m.origin.start e.which)

  start-closed : closed_at (last st.entries) ≤ suc (own_view img).mark
  start-closed = subst (λ (t : CardStart). closed_at (last t.entries) ≤ suc (own_view img).mark) (sym (m.origin.start e.which)) (closed-up (own_view img).mark (own_view img).held.entries (own-marked img))

  stored-start : (own_view img).stored ≤ s.number
  stored-start = let low = may.since.stored in let past = may.since.past in omega (arith, low, past)

  -- with all that it is to have its newest minute is not later than this one, or it is the one behind that of its end mark at the start
  most : newest_with v (owed e.which u v) ≤ max (max st.mark (closed_at (last st.entries))) (s.number / 60)
  most =
      let low : All (λ (x : Entry). x.minute < s.number / 60) (meets.more ++ owed e.which u v) = subst (All (λ (x : Entry). x.minute < s.number / 60)) (sym whole) some-low in
      let bound = trimmed-most st st.entries (meets.more ++ owed e.which u v) (s.number / 60) low in
      let is = meets.newest in
      omega (arith, bound, is)
    where
      whole : meets.more ++ owed e.which u v ≡ st.owed ++ card_history e.which (up_to u.last (all (kept_all w.new w.b.run.book)))
      whole = meets.whole

      some-low : All (λ (x : Entry). x.minute < s.number / 60) (st.owed ++ card_history e.which (up_to u.last (all (kept_all w.new w.b.run.book))))
      some-low = brought-part o done s n waits fewer e k out unfound next_ begun minutes U X Z w m coherent u.last

  start-times : ((own_view img).mark ≤ s.number / 60) × (st.word ≤ s.number / 60) × (60 * (own_view img).mark ≤ (own_view img).stored)
  start-times =
      let low = mark-low img in
      let stored = stored-start in
      let word = beyond-low img s.number (few-now o done s n waits fewer e k out unfound next_ begun minutes U X Z w m coherent) stored in
      let is = start-word in
      (omega (arith, low, stored), omega (arith, word, is), low)

  -- so in this minute
  low-newest : newest_with v (owed e.which u v) ≤ suc (s.number / 60)
  low-newest = let bound = most in let mark = start-mark in let closed = start-closed in let times = start-times.0 in omega (arith, bound, mark, closed, times)

  low-mark : v.mark ≤ newest_with v (owed e.which u v)
  low-mark = mark-newest e.which u v meets.bound

  here-or : suc (s.number / 60) ≤ newest_with v (owed e.which u v) → (own_view img).mark ≡ s.number / 60
  here-or high = let bound = most in let mark = start-mark in let closed = start-closed in let times = start-times.0 in omega (arith, bound, mark, closed, times, high)

  -- the last use is not later than this second, or it is the minute behind
  used : (own_use y ≤ s.number) ⊎ ((own_use y ≡ 60 * suc (s.number / 60)) × (suc (s.number / 60) ≤ newest_with v (owed e.which u v)))
  used = ⊎_elim
      (λ same. inl (let first = use-first in let stored = stored-start in omega (arith, same, first, stored)))
      (λ whole.
      let mark = (stores y).mark in
      let up = low-mark in
      let top = low-newest in
      let is = whole.1 in
      ⊎_elim (λ high. inr (let high_ : s.number / 60 < whole.0 = high in (omega (arith, is, mark, up, top, high_), omega (arith, is, mark, up, high_)))) (λ low. inl (let low_ : whole.0 ≤ s.number / 60 = omega (arith, low) in omega (arith, is, low_))) (cases_lt (s.number / 60) whole.0))
      timed
    where
      use-first : own_use (found_of o.found e.which).image ≤ (own_view img).stored
      use-first =
          let same = own-is (own_sizes img) img refl in
          let least = stored_least (own_sizes img) img in
          let stored = ap (λ (x : CardView). x.stored) same in
          let first : own_use (found_of o.found e.which).image ≡ last_use (own_sizes img) img = ap own_use (m.origin.image e.which) ∙ use-is (own_sizes img) img refl in
          omega (arith, least, stored, first)

  few : 60 * suc (s.number / 60) < 4294967295
  few = let last_ = m.last in let now = now-is o done s n waits fewer e k out unfound next_ begun minutes U X Z w m in let latest : LATEST_MINUTE ≤ 71582788 = omega arith in omega (arith, last_, now)

  -- THE STORED TIME is that of the minute behind
  pub behind : ((own_view y).stored ≡ 60 * suc (s.number / 60)) × (suc (s.number / 60) ≤ newest_with v (owed e.which u v))
  behind = ⊎_elim
      (λ none.
      let stored = (stores y).shut none in
      let words = meets.words none in
      let empty : newest_with v (owed e.which u v) ≡ v.newest = ap (newest_with v) (owed-none e.which u v none) in
      let top = low-newest in
      let start = start-times.1 in
      let cap = few in
      ⊎_elim
      (λ low.
      let late_ = late in
      let word : suc (s.number / 60) ≤ v.word = omega (arith, stored, low, late_) in
      (omega (arith, stored, words, empty, top, start, cap, low, word), omega (arith, words, empty, start, word)))
      (λ high.
      let first = high.0 in let next = high.1 in
      (omega (arith, stored, words, empty, top, start, cap, first), next))
      used)
      (λ some.
      let stored = (stores y).open_ some in
      ⊎_elim (λ low. let late_ = late in absurd (omega (arith, stored, low, late_))) (λ high. (stored ∙ high.0, high.1)) used)
      (zero-or v.session)
    where
      zero-or : (j : ℕ) → (j ≡ 0) ⊎ (j ≡ 0 → ⊥)
      zero-or j = ⊎_elim (λ some. inr (λ none. omega (arith, some, none))) (λ none. inl (omega (arith, none))) (cases_lt 0 j)

  -- IT WAS PUT IN BEFORE in this minute
  waits-one : 1 ≤ times_of e.which waits
  waits-one = let less = m.next_.but.fewer_by e.which in let own : times_of e.which (record { phase = In n; slot = e.slot; card = e.which } ∷ []) ≡ 1 = own-visit e.which in omega (arith, less, own)
    where
      own-visit : (c : Card) → times_of c (record { phase = In n; slot = e.slot; card = c } ∷ []) ≡ 1
      own-visit A = refl
      own-visit B = refl

  pub before-here : 1 < often o w.b done (course_in w.b done s (In n) (values_with k out unfound next_ begun minutes).log) s.number e.which
  before-here = ⊎_elim
      (λ then.
      let mark = here-or behind.1 in
      let first = start-times.2 in
      let stored = may.since.stored in
      let past = may.since.past in
      let same : may.time / 60 ≡ s.number / 60 = omega (arith, mark, first, stored, past) in
      let more = entered-later (recording_by o done w.b.run.log) e.which may.time s.number past same in
      let counted = w.moment.counted e.which in
      let one_ = waits-one in
      omega (arith, then, more, counted, one_))
      (λ now. let less = now.1 in let one_ = waits-one in omega (arith, less, one_))
      may.entered_then
