-- A card that has entered no slot so far is on no minute of the history.
use Rattle.std.proofs.Common.{◌≡◌, ⊎_elim, ℕ, ◌+◌, ◌/◌, ◌<◌, Bool, true, false, cond, Option, Some, None, List, [], ◌∷◌, ◌++◌, All, map, filter, refl, ap, sym, subst, ◌∙◌, append-nil, append_assoc, arith, length, length-append}
use Rattle.std.specs.Prelude.{fold, is_some, nat_eq, nat_le, not, option_map, option_to_list, unwrap_or, flat_map, Contains, ◌&&◌, ◌||◌}
use Rattle.std.specs.List.{list_any}
use Rattle.std.proofs.lemmas.Bool.{cases_lt}
use Rattle.std.proofs.lemmas.Bool.Decides.{nat_tests}
use Rattle.std.proofs.lemmas.List.Elements.{All-nil, All-cons, All-head, All-tail, All-append, All-filter, Contains-append_left, Contains-append_right, Contains-append_cases, Contains-push, Contains-push_cases}
use Rattle.run_course.specs.activity_codec.declared.entries.Entry.{Entry}
use Rattle.run_course.specs.activity_codec.declared.values.Slot.{Slot}
use Rattle.run_course.specs.activity_codec.declared.values.Slot.TheVariants.{Driver, CoDriver}
use Rattle.run_course.specs.trace_model.declared.Card.{Card}
use Rattle.run_course.specs.trace_model.declared.Card.TheVariants.{A, B}
use Rattle.run_course.specs.trace_model.declared.Action.{Action}
use Rattle.run_course.specs.trace_model.declared.Action.TheVariants.{Select, Insert, Withdraw, Tear, Place, Manual}
use Rattle.run_course.specs.trace_model.Trace.{TraceSecond}
use Rattle.run_course.specs.minute_model.declared.Rule.{Rule}
use Rattle.run_course.specs.minute_model.declared.Minute.{Minute}
use Rattle.run_course.specs.minute_model.Second.{minute_of}
use Rattle.run_course.specs.minute_model.Activity.{last}
use Rattle.run_course.specs.log_model.declared.lines.SlotFault.{SlotFault}
use Rattle.run_course.specs.log_model.declared.lines.Verdict.{Verdict}
use Rattle.run_course.specs.log_model.Log.{RunLog, Phase, In, Keeping, cut_in, is_torn_in, found_in, is_accepting}
use Rattle.run_course.specs.log_model.Slots.{Slots, Sitting, in_slot, same_card, holds, refusal}
use Rattle.run_course.specs.log_model.Course.{ToldSecond, Before, Course, Moved, Visit, Went, visits, leaves, begins, is_settling, with_slot, slot_told, both_told, carried_out, answered, moved_by, acted, all_acted, cut_told, fresh, lit_course, dark_course, unmoved, has_power, second_told, went_on, not_begun, went}
use Rattle.run_course.specs.log_model.Spans.{spans_of}
use Rattle.run_course.specs.history_model.Minutes.{HistoryMinute, is_crew, entry_in, on_card, card_history, up_to}
use Rattle.run_course.specs.history_model.Presence.{Start, present_sitting, present_in, is_present, in_minute}
use Rattle.run_course.specs.history_model.History.{seated, minutes_after, decided_of, limit_of, limited_to, span_minutes, history_by, unit_history}
use Rattle.run_course.proofs.history_model.Books.{history-append, history-one, history-none}
use Rattle.run_course.proofs.history_model.Filters.{all-front, all-back, all-one}

-- the two cards are one, either way round
swapped : (c d : Card) → same_card c d ≡ same_card d c
swapped A A = refl
swapped A B = refl
swapped B A = refl
swapped B B = refl

module _ (c : Card) where
  -- the card is in neither slot
  pub record IsOut (slots : Slots) : Type 0 where
    pub driver : holds slots.driver c ≡ false
    pub codriver : holds slots.codriver c ≡ false

  -- another card enters
  abbrev pub IsOther : Visit → Type 0
  IsOther e = same_card c e.card ≡ false

  out-in : (slots : Slots) (slot : Slot) → IsOut slots → holds (in_slot slots slot) c ≡ false
  out-in slots Driver o = o.driver
  out-in slots CoDriver o = o.codriver

  out-with : (slots : Slots) (slot : Slot) (s : Option Sitting) → holds s c ≡ false → IsOut slots → IsOut (with_slot slots slot s)
  out-with slots Driver s is o = record { driver = is; codriver = o.codriver }
  out-with slots CoDriver s is o = record { driver = o.driver; codriver = is }

  holds-so : (s : Option Sitting) (accepted : Option ℕ) → holds s c ≡ false → holds (option_map {T = Sitting} (λ x. record x { accepted = accepted }) s) c ≡ false
  holds-so None accepted is = refl
  holds-so (Some sitting) accepted is = is

  -- what a step of a second does: some cards enter, and a card that is out and not among them stays out
  record Goes (x y : Course) : Type 0 where
    pub more : List Visit
    pub entered : y.entered ≡ x.entered ++ more
    pub out : All IsOther more → IsOut x.slots → IsOut y.slots

  goes-then : (x y z : Course) → Goes x y → Goes y z → Goes x z
  goes-then x y z first next = record {
    more = first.more ++ next.more;
    entered = next.entered ∙ ap (λ (vs : List Visit). vs ++ next.more) first.entered ∙ append_assoc x.entered first.more next.more;
    out = λ others o. next.out (all-back IsOther first.more next.more others) (first.out (all-front IsOther first.more next.more others) o);
  }

  -- where none enters
  still : (x y : Course) → y.entered ≡ x.entered → (IsOut x.slots → IsOut y.slots) → Goes x y
  still x y same out = record { more = []; entered = same ∙ sym (append-nil x.entered); out = λ others o. out o }

  either : (x : Course) (b : Bool) (y z : Course) → Goes x y → Goes x z → Goes x (cond b y z)
  either x true y z first next = first
  either x false y z first next = next

  -- what was found of the card in a slot; it is torn out, or accepted, or neither
  slot-by : (u : ℕ) (slot : Slot) (x : Course) (seen : List (Visit × Verdict)) (gone : List Visit) (torn accepts : Bool) →
      Goes x (cond torn (record (leaves slot (record x { found = seen })) { torn = gone })
      (cond accepts (record (record x { found = seen }) { slots = with_slot x.slots slot (option_map {T = Sitting} (λ y. record y { accepted = Some u }) (in_slot x.slots slot)) }) (record x { found = seen })))
  slot-by u slot x seen gone true accepts = still x (record (leaves slot (record x { found = seen })) { torn = gone }) refl (λ o. out-with x.slots slot None refl o)
  slot-by u slot x seen gone false true =
      let sits : Option Sitting = option_map {T = Sitting} (λ y. record y { accepted = Some u }) (in_slot x.slots slot) in
      still x (record (record x { found = seen }) { slots = with_slot x.slots slot sits }) refl (λ o. out-with x.slots slot sits (holds-so (in_slot x.slots slot) (Some u) (out-in x.slots slot o)) o)
  slot-by u slot x seen gone false false = still x (record x { found = seen }) refl (λ o. o)

  slot-goes : (log : RunLog) (u : ℕ) (p : Phase) (moved : Moved) (slot : Slot) (x : Course) → Goes x (slot_told log u p moved slot x)
  slot-goes log u p moved slot x =
      let verdicts : List Verdict = cond (moved.enters slot) (found_in log u p slot) [] in
      slot-by u slot x (x.found ++ flat_map (λ (visit : Visit). map (λ (v : Verdict). (visit, v)) verdicts) (visits p slot x.slots)) (x.torn ++ (moved.leaving slot ++ visits p slot x.slots)) (is_torn_in log u p slot) (list_any is_accepting verdicts)

  both-go : (log : RunLog) (u : ℕ) (p : Phase) (moved : Moved) (x : Course) → Goes x (both_told log u p moved x)
  both-go log u p moved x = goes-then x (slot_told log u p moved Driver x) (both_told log u p moved x) (slot-goes log u p moved Driver x) (slot-goes log u p moved CoDriver (slot_told log u p moved Driver x))

  carried-goes : (n : ℕ) (a : Action) (x : Course) → Goes x (carried_out n a x)
  carried-goes n (Select slot pick) x = still x _ refl (λ o. o)
  carried-goes n (Insert slot card) x = record {
    more = record { phase = In (n + 1); slot = slot; card = card } ∷ [];
    entered = refl;
    out = λ others o. out-with x.slots slot (Some (record { card = card; accepted = None })) (sym (swapped c card) ∙ All-head IsOther (record { phase = In (n + 1); slot = slot; card = card }) [] others) o;
  }
  carried-goes n (Withdraw slot) x = still x _ refl (λ o. out-with x.slots slot None refl o)
  carried-goes n (Tear slot) x = still x _ refl (λ o. out-with x.slots slot None refl o)
  carried-goes n (Place slot ending country region) x = still x _ refl (λ o. o)
  carried-goes n (Manual slot pick minute) x = still x _ refl (λ o. o)

  answered-goes : (n : ℕ) (r : Option SlotFault) (a : Action) (x : Course) → Goes x (answered n r a x)
  answered-goes n None a x = carried-goes n a x
  answered-goes n (Some r) a x = still x _ refl (λ o. o)

  acted-goes : (log : RunLog) (s : TraceSecond) (n : ℕ) (a : Action) (x : Course) → Goes x (acted log s n a x)
  acted-goes log s n a x =
      let y : Course = answered n (refusal x.slots s.speed a) a x in
      let z : Course = both_told log s.number (In (n + 1)) (moved_by n (refusal x.slots s.speed a) a x.slots) y in
      either x (begins (cut_in log s.number) n) z (record x { settled = x.settled || is_settling a })
      (goes-then x y z (answered-goes n (refusal x.slots s.speed a) a x) (both-go log s.number (In (n + 1)) (moved_by n (refusal x.slots s.speed a) a x.slots) y))
      (still x (record x { settled = x.settled || is_settling a }) refl (λ o. o))

  all-go : (log : RunLog) (s : TraceSecond) (n : ℕ) (actions : List Action) (x : Course) → Goes x (all_acted log s n actions x)
  all-go log s n [] x = still x x refl (λ o. o)
  all-go log s n (a ∷ actions) x = goes-then x (acted log s n a x) (all_acted log s n (a ∷ actions) x) (acted-goes log s n a x) (all-go log s (n + 1) actions (acted log s n a x))

  cut-goes : (b : Bool) (x : Course) → Goes x (cut_told b x)
  cut-goes false x = still x x refl (λ o. o)
  cut-goes true x = still x _ refl (λ o. record { driver = holds-so x.slots.driver None o.driver; codriver = holds-so x.slots.codriver None o.codriver })

  lit-goes : (log : RunLog) (s : TraceSecond) (starts : Bool) (slots : Slots) → Goes (fresh starts slots) (lit_course log s starts slots)
  lit-goes log s starts slots =
      let x : Course = fresh starts slots in
      let y : Course = both_told log s.number (In 0) (unmoved starts) x in
      let z : Course = all_acted log s 0 s.actions y in
      let v : Course = both_told log s.number Keeping (unmoved false) z in
      goes-then x y (lit_course log s starts slots) (both-go log s.number (In 0) (unmoved starts) x)
      (goes-then y z (lit_course log s starts slots) (all-go log s 0 s.actions y) (goes-then z v (lit_course log s starts slots) (both-go log s.number Keeping (unmoved false) z) (cut-goes (is_some (cut_in log s.number)) v)))

  -- ---- seconds

  -- none of the cards that entered in a second is this one
  abbrev pub AreOthers : ToldSecond → Type 0
  AreOthers t = All IsOther t.course.entered

  abbrev pub StaysOut : ToldSecond → Type 0
  StaysOut t = IsOut t.course.slots

  lit-out : (log : RunLog) (s : TraceSecond) (starts : Bool) (slots : Slots) → All IsOther (lit_course log s starts slots).entered → IsOut slots → IsOut (lit_course log s starts slots).slots
  lit-out log s starts slots others o =
      let g = lit-goes log s starts slots in
      g.out (all-back IsOther (fresh starts slots).entered g.more (subst (All IsOther) g.entered others)) o

  abbrev lit-told : RunLog → Before → TraceSecond → ToldSecond
  lit-told log before s = record {
    second = record { number = s.number; speed = s.speed; picks = (lit_course log s (not before.running) before.slots).picks };
    given = s.has_power;
    lit = true;
    starts = not before.running;
    cut = is_some (cut_in log s.number);
    course = lit_course log s (not before.running) before.slots;
  }

  abbrev dark-told : Before → TraceSecond → ToldSecond
  dark-told before s = record {
    second = record { number = s.number; speed = s.speed; picks = [] };
    given = s.has_power;
    lit = false;
    starts = false;
    cut = false;
    course = dark_course s before.slots;
  }

  second-out : (log : RunLog) (before : Before) (s : TraceSecond) → AreOthers (second_told log before s) → IsOut before.slots → StaysOut (second_told log before s)
  second-out log before s = by (has_power before s)
    where
      by : (b : Bool) → AreOthers (cond b (lit-told log before s) (dark-told before s)) → IsOut before.slots → StaysOut (cond b (lit-told log before s) (dark-told before s))
      by true others o = lit-out log s (not before.running) before.slots others o
      by false others o = o

  -- the seconds so far, behind others
  record HaveGone (w v : Went) : Type 0 where
    pub more : List ToldSecond
    pub told : v.told ≡ w.told ++ more
    pub out : All AreOthers more → IsOut w.before.slots → All StaysOut more × IsOut v.before.slots

  seconds-go : (log : RunLog) (ss : List TraceSecond) (w : Went) → HaveGone w (fold (went_on log) w ss)
  seconds-go log [] w = record { more = []; told = sym (append-nil w.told); out = λ others o. (All-nil StaysOut, o) }
  seconds-go log (s ∷ ss) w =
      let t : ToldSecond = second_told log w.before s in
      let rest = seconds-go log ss (went_on log w s) in
      record {
        more = t ∷ rest.more;
        told = rest.told ∙ append_assoc w.told (t ∷ []) rest.more;
        out = λ others o.
            let here = second-out log w.before s (All-head AreOthers t rest.more others) o in
            let later = rest.out (All-tail AreOthers t rest.more others) here in
            (All-append StaysOut (t ∷ []) rest.more (all-one StaysOut t here) later.0, later.1);
      }

  pub stays-out : (log : RunLog) (ss : List TraceSecond) → All AreOthers (went log ss).told → All StaysOut (went log ss).told
  unfolding went
  stays-out log ss others =
      let g = seconds-go log ss not_begun in
      subst (All StaysOut) (sym g.told) (g.out (subst (All AreOthers) g.told others) (record { driver = refl; codriver = refl })).0

  -- ---- the minutes

  -- a minute says nothing on the card
  abbrev pub IsBare : HistoryMinute → Type 0
  IsBare i = on_card c i ≡ []

  pub bare-history : (past : List HistoryMinute) → All IsBare past → card_history c past ≡ []
  bare-history [] bare = history-none c
  bare-history (i ∷ past) bare =
      history-append c (i ∷ []) past ∙ ap (λ (es : List Entry). es ++ card_history c past) (history-one c i ∙ All-head IsBare i past bare) ∙ bare-history past (All-tail IsBare i past bare)

  last-out : (ts : List ToldSecond) (slot : Slot) → All StaysOut ts → holds (unwrap_or (option_map {T = ToldSecond} (λ t. in_slot t.course.slots slot) (last ts)) None) c ≡ false
  last-out [] slot out = refl
  last-out (t ∷ []) slot out = out-in t.course.slots slot (All-head StaysOut t [] out)
  last-out (t ∷ u ∷ ts) slot out = last-out (u ∷ ts) slot (All-tail StaysOut t (u ∷ ts) out)

  sitting-none : (start : Start) (past : List HistoryMinute) (m : ℕ) (ts : List ToldSecond) (s : Option Sitting) → holds s c ≡ false → filter (same_card c) (option_to_list (present_sitting start past m ts s)) ≡ []
  sitting-none start past m ts None is = refl
  sitting-none start past m ts (Some sitting) is = by (is_present start past m ts sitting.card sitting.accepted)
    where
      by : (b : Bool) → filter (same_card c) (option_to_list (cond b (Some sitting.card) None)) ≡ []
      by true = ap (λ (b : Bool). cond b (sitting.card ∷ []) []) (swapped c sitting.card ∙ is)
      by false = refl

  present-none : (start : Start) (told : List ToldSecond) (past : List HistoryMinute) (m : ℕ) (slot : Slot) → All StaysOut told → filter (same_card c) (option_to_list (present_in start told past m slot)) ≡ []
  unfolding present_in
  present-none start told past m slot out =
      let ts : List ToldSecond = in_minute m told in
      sitting-none start past m ts (unwrap_or (option_map {T = ToldSecond} (λ t. in_slot t.course.slots slot) (last ts)) None) (last-out ts slot (All-filter (λ (t : ToldSecond). nat_eq (minute_of t.second) m) StaysOut told out))

  seated-bare : (start : Start) (told : List ToldSecond) (past : List HistoryMinute) (d : Minute) → All StaysOut told → IsBare (seated start told past d)
  seated-bare start told past d out =
      let i : HistoryMinute = seated start told past d in
      ap (λ (cs : List Card). map (λ (x : Card). record { minute = i.minute; slot = Driver; crew = is_crew i; act = i.driver.act }) cs ++ entry_in c CoDriver i i.codriver) (present-none start told past d.minute Driver out)
      ∙ ap (λ (cs : List Card). map (λ (x : Card). record { minute = i.minute; slot = CoDriver; crew = is_crew i; act = i.codriver.act }) cs) (present-none start told past d.minute CoDriver out)

  pub minutes-bare : (start : Start) (told : List ToldSecond) (past : List HistoryMinute) (ds : List Minute) → All StaysOut told → All IsBare (minutes_after start told past ds)
  minutes-bare start told past [] out = All-nil IsBare
  minutes-bare start told past (d ∷ ds) out =
      let i : HistoryMinute = seated start told past d in
      All-append IsBare (i ∷ []) (minutes_after start told (past ++ i ∷ []) ds) (all-one IsBare i (seated-bare start told past d out)) (minutes-bare start told (past ++ i ∷ []) ds out)

  pub up-bare : (k : ℕ) (past : List HistoryMinute) → All IsBare past → All IsBare (up_to k past)
  up-bare k past bare = All-filter (λ (i : HistoryMinute). nat_le i.minute k) IsBare past bare

  limited-bare : (k : Option ℕ) (past : List HistoryMinute) → All IsBare past → All IsBare (limited_to k past)
  limited-bare None past bare = bare
  limited-bare (Some k) past bare = up-bare k past bare

  spans-bare : (rule : Rule) (start : Start) (limit : List ToldSecond → List (List ToldSecond) → Option ℕ) (told : List ToldSecond) (past : List HistoryMinute) (spans : List (List ToldSecond)) → All StaysOut told → All IsBare (history_by rule start limit told past spans)
  spans-bare rule start limit told past [] out = All-nil IsBare
  spans-bare rule start limit told past (span ∷ later) out =
      let more : List HistoryMinute = limited_to (limit span later) (span_minutes rule start told past span) in
      All-append IsBare more (history_by rule start limit told (past ++ more) later) (limited-bare (limit span later) (span_minutes rule start told past span) (minutes-bare start told past (decided_of rule span) out))
      (spans-bare rule start limit told (past ++ more) later out)

  pub unit-bare : (rule : Rule) (start : Start) (log : RunLog) (told : List ToldSecond) → All StaysOut told → All IsBare (unit_history rule start log told)
  unfolding unit_history
  unit-bare rule start log told out = spans-bare rule start (limit_of log) told [] (spans_of told) out

-- where a card has entered no slot in some seconds, none of those that entered is it
others-in : (c : Card) (vs : List Visit) → length (filter (λ (e : Visit). same_card c e.card) vs) ≡ 0 → All (IsOther c) vs
others-in c [] none = All-nil (IsOther c)
others-in c (v ∷ vs) none = by (same_card c v.card) refl none (others-in c vs)
  where
    by : (b : Bool) → same_card c v.card ≡ b → length (cond b (v ∷ filter (λ (e : Visit). same_card c e.card) vs) (filter (λ (e : Visit). same_card c e.card) vs)) ≡ 0 → (length (filter (λ (e : Visit). same_card c e.card) vs) ≡ 0 → All (IsOther c) vs) → All (IsOther c) (v ∷ vs)
    by true is h rest = absurd (omega (arith, h))
    by false is h rest = All-cons (IsOther c) v vs is (rest h)

pub others-told : (c : Card) (told : List ToldSecond) → length (flat_map (λ (t : ToldSecond). filter (λ (e : Visit). same_card c e.card) t.course.entered) told) ≡ 0 → All (AreOthers c) told
others-told c [] none = All-nil (AreOthers c)
others-told c (t ∷ told) none =
    let here : List Visit = filter (λ (e : Visit). same_card c e.card) t.course.entered in
    let rest : List Visit = flat_map (λ (t : ToldSecond). filter (λ (e : Visit). same_card c e.card) t.course.entered) told in
    let sum = length-append here rest in
    All-cons (AreOthers c) t told (others-in c t.course.entered (omega (arith, sum, none))) (others-told c told (omega (arith, sum, none)))

-- and where it has, it did so in one of these seconds
pub entered-then : (c : Card) (told : List ToldSecond) → 0 < length (flat_map (λ (t : ToldSecond). filter (λ (e : Visit). same_card c e.card) t.course.entered) told) →
    (t : ToldSecond) × Contains told t × (0 < length (filter (λ (e : Visit). same_card c e.card) t.course.entered))
entered-then c [] some = absurd (omega (arith, some))
entered-then c (t ∷ told) some =
    let here : List Visit = filter (λ (e : Visit). same_card c e.card) t.course.entered in
    let rest : List Visit = flat_map (λ (t : ToldSecond). filter (λ (e : Visit). same_card c e.card) t.course.entered) told in
    let sum = length-append here rest in
    ⊎_elim
    (λ (yes : 0 < length here). (t, Contains-append_left (t ∷ []) told t (Contains-push [] t), yes))
    (λ none. let later = entered-then c told (omega (arith, sum, none, some)) in (later.0, Contains-append_right (t ∷ []) told later.0 later.1, later.2))
    (cases_lt 0 (length here))

-- what entered up to a second in its minute
abbrev up_to_here : Card → ToldSecond → ToldSecond → List Visit
up_to_here c t x = cond (nat_le x.second.number t.second.number && nat_eq (x.second.number / 60) (t.second.number / 60)) (filter (λ (e : Visit). same_card c e.card) x.course.entered) []

pub entered-at : (c : Card) (told : List ToldSecond) (t : ToldSecond) → Contains told t → 0 < length (filter (λ (e : Visit). same_card c e.card) t.course.entered) →
    0 < length (flat_map (λ (x : ToldSecond). cond (nat_le x.second.number t.second.number && nat_eq (x.second.number / 60) (t.second.number / 60)) (filter (λ (e : Visit). same_card c e.card) x.course.entered) []) told)
entered-at c told t at some = by told at
  where
    least : (n : ℕ) → nat_le n n ≡ true
    least n = grind (arith, nat_tests)

    alike : (n : ℕ) → nat_eq n n ≡ true
    alike n = grind (arith, nat_tests)

    self : (n : ℕ) → (nat_le n n && nat_eq (n / 60) (n / 60)) ≡ true
    self n = ap (λ (b : Bool). b && nat_eq (n / 60) (n / 60)) (least n) ∙ alike (n / 60)

    here : up_to_here c t t ≡ filter (λ (e : Visit). same_card c e.card) t.course.entered
    here = ap (λ (b : Bool). cond b (filter (λ (e : Visit). same_card c e.card) t.course.entered) []) (self t.second.number)

    by : (told : List ToldSecond) → Contains told t → 0 < length (flat_map (up_to_here c t) told)
    by [] at = absurd (omega (arith, at.1))
    by (x ∷ told) at =
        let sum = length-append (up_to_here c t x) (flat_map (up_to_here c t) told) in
        ⊎_elim
        (λ first. ⊎_elim (λ none. absurd (omega (arith, none.1))) (λ (is : x ≡ t). let long : length (up_to_here c t x) ≡ length (filter (λ (e : Visit). same_card c e.card) t.course.entered) = ap (λ (y : ToldSecond). length (up_to_here c t y)) is ∙ ap length here in omega (arith, sum, long, some)) (Contains-push_cases [] x t first))
        (λ later. let rest = by told later in omega (arith, sum, rest))
        (Contains-append_cases (x ∷ []) told t at)
