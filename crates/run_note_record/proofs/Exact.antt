-- The session times that a run tells exactly of a card on which no call failed: as the log goes on, and one second more
-- comes.
use Rattle.std.proofs.Common.{◌≡◌, ◌∙◌, ⊎_elim, inl, inr, ℕ, ◌+◌, ◌<◌, Bool, true, false, cond, nat_eq, List, [], ◌∷◌, ◌++◌, All, Contains, take, drop, map, refl, ap, sym, subst, arith, append-nil}
use Rattle.std.specs.Prelude.{not, ◌&&◌, filter, flat_map}
use Rattle.std.specs.List.{AllByRecursion}
use Rattle.std.proofs.lemmas.Bool.Decides.{nat_tests}
use Rattle.std.proofs.lemmas.Grind.{flat_map-append}
use Rattle.std.proofs.lemmas.List.{take-append-drop}
use Rattle.std.proofs.lemmas.List.Elements.{filter-append, All-nil, All-cons, Contains-append_left, Contains-append_right, Contains-push}
use Rattle.run_devices.specs.trace_model.declared.Card.{Card}
use Rattle.run_devices.specs.trace_model.declared.Action.{Action}
use Rattle.run_devices.specs.trace_model.declared.Action.TheVariants.{Select, Insert, Withdraw, Tear as Pull, Place, Manual}
use Rattle.run_devices.specs.trace_model.Trace.{TraceSecond}
use Rattle.run_devices.specs.log_model.declared.lines.Break.{Break}
use Rattle.run_devices.specs.log_model.declared.lines.Break.TheVariants.{Cut, Tear}
use Rattle.run_devices.specs.log_model.declared.lines.Verdict.{Verdict}
use Rattle.run_devices.specs.log_model.Log.{RunLog, Phase, In, same_phase, is_torn_in, is_accepting}
use Rattle.run_devices.specs.log_model.Causes.{is_cut, has_failed, cuts, cards_torn}
use Rattle.run_devices.specs.log_model.Same.{SameAt}
use Rattle.run_devices.specs.log_model.Slots.{same_card, in_slot}
use Rattle.run_devices.specs.log_model.Course.{ToldSecond, Visit, Before, Went, has_power, second_told, went}
use Rattle.run_devices.proofs.log_model.Growth.{went-more}
use Rattle.run_devices.specs.note_model.Done.{CarriedOut, Done, carried_from, course_powered, done_by}
use Rattle.run_devices.specs.note_model.Noted.{Note, Accepts, Withdraws, Enters, accepted_at, accepted_card, noted_by, noted_in}
use Rattle.run_devices.specs.safety_model.Recording.{card_image}
use Rattle.run_devices.specs.run_unit_course.Lines.{cut_at, with_kept, found_from}
use Rattle.run_devices.specs.run_course.Moments.{and_break}
use Rattle.run_devices.specs.run_course.Followed.{Progress, BookFollowsRun}
use Rattle.run_devices.specs.run_course.Seconds.{GoesOnBy, next_told}
use Rattle.run_devices.proofs.run_course.Caused.{cards-more}
use Rattle.run_devices.proofs.run_course.Logs.{went-refused}
use Rattle.run_devices.proofs.run_course.Steps.{now-told}
use Rattle.run_devices.proofs.run_course.Told.{told-lit}
use Rattle.run_events.specs.Seconds.{seen_next}
use Rattle.run_devices.specs.run_promise.Origin.{Origin, rule_of, start_at, first_of}
use Rattle.run_devices.proofs.run_promise.Beside.{second-tells}
use Rattle.run_note_record.specs.Uses.{times_of, opened_in, opened_on, notes_in, noted_next, vehicle_in, use_in, uses_in, NoneFailedOn, AreExact, AreExactIn}
use Rattle.run_note_record.specs.Evented.{sessions_now}
use Rattle.run_note_record.proofs.Noted.{notes-alike, second-notes}
use Rattle.run_note_record.proofs.Lines.{same-before, number-next}
use Rattle.run_note_record.proofs.Uses.{NotAccepted, uses-quiet}

-- ---- the log tells of no failed call

abbrev pub failed_cut : Break → Bool
failed_cut b = is_cut b && has_failed b

abbrev pub failed_tear : Break → Bool
failed_tear b = not (is_cut b) && has_failed b

pub front-none : {X : Type 0} (p : X → Bool) (xs ys : List X) → filter p (xs ++ ys) ≡ [] → filter p xs ≡ []
front-none {X} p xs ys none = by (filter p xs) (sym (filter-append p xs ys) ∙ none)
  where
    by : (zs : List X) → zs ++ filter p ys ≡ [] → zs ≡ []
    by [] is = refl
    by (z ∷ zs) is = absurd (cc)

pub back-none : {X : Type 0} (p : X → Bool) (xs ys : List X) → filter p (xs ++ ys) ≡ [] → filter p ys ≡ []
back-none {X} p xs ys none = by (filter p xs) (sym (filter-append p xs ys) ∙ none)
  where
    by : (zs : List X) → zs ++ filter p ys ≡ [] → filter p ys ≡ []
    by [] is = is
    by (z ∷ zs) is = absurd (cc)

-- a cut where a call failed is told
pub no-cut : {T : Type 0} (log : RunLog) (u begun : ℕ) → cuts true (and_break log (cut_at u true begun)) ≡ [] → T
no-cut log u begun none = let some = back-none failed_cut log.breaks (cut_at u true begun ∷ []) none in absurd (cc)

-- ---- and a card was not torn out

-- in fewer seconds
pub torn-front : (c : Card) (ts us : List ToldSecond) → filter (same_card c) (cards_torn (ts ++ us)) ≡ [] → filter (same_card c) (cards_torn ts) ≡ []
torn-front c ts us none = front-none (same_card c) (cards_torn ts) (cards_torn us) (ap (filter (same_card c)) (sym (cards-more ts us)) ∙ none)

-- in the last one
abbrev cards_at : ToldSecond → List Card
cards_at t = map (λ (v : Visit). v.card) t.course.torn

torn-parts : (ts : List ToldSecond) (t : ToldSecond) → cards_torn (ts ++ t ∷ []) ≡ cards_torn ts ++ cards_at t
torn-parts ts t = cards-more ts (t ∷ []) ∙ ap (λ (cs : List Card). cards_torn ts ++ cs) (append-nil (cards_at t))

pub torn-last : (c : Card) (ts : List ToldSecond) (t : ToldSecond) → filter (same_card c) (cards_torn (ts ++ t ∷ [])) ≡ [] → filter (same_card c) (map (λ (v : Visit). v.card) t.course.torn) ≡ []
torn-last c ts t none = back-none (same_card c) (cards_torn ts) (cards_at t) (ap (filter (same_card c)) (sym (torn-parts ts t)) ∙ none)

-- WHO IS TORN OUT of these is torn out of those
abbrev pub TornStay : (xs ys : List Visit) → Type 0
TornStay xs ys = (c : Card) → filter (same_card c) (map (λ (v : Visit). v.card) ys) ≡ [] → filter (same_card c) (map (λ (v : Visit). v.card) xs) ≡ []

pub stay-alike : (xs ys : List Visit) → ys ≡ xs → TornStay xs ys
stay-alike xs ys is c none = ap (λ (vs : List Visit). filter (same_card c) (map (λ (v : Visit). v.card) vs)) (sym is) ∙ none

pub torn-next : (c : Card) (ts : List ToldSecond) (t u : ToldSecond) → TornStay t.course.torn u.course.torn → filter (same_card c) (cards_torn (ts ++ u ∷ [])) ≡ [] → filter (same_card c) (cards_torn (ts ++ t ∷ [])) ≡ []
torn-next c ts t u stay none =
    let front : filter (same_card c) (cards_torn ts) ≡ [] = torn-front c ts (u ∷ []) none in
    let here : filter (same_card c) (cards_at t) ≡ [] = stay c (torn-last c ts u none) in
    ap (filter (same_card c)) (torn-parts ts t) ∙ filter-append (same_card c) (cards_torn ts) (cards_at t) ∙ (λ i. front i ++ here i)

-- NONE HAS FAILED ON IT by fewer lines, and so many seconds
pub failed-fewer : (o : Origin) (c : Card) (log later : RunLog) (more : List Break) (told now : List ToldSecond) → later.breaks ≡ log.breaks ++ more → (filter (same_card c) (cards_torn now) ≡ [] → filter (same_card c) (cards_torn told) ≡ []) →
    NoneFailedOn o later now c → NoneFailedOn o log told c
failed-fewer o c log later more told now is fewer none = (
  front-none failed_cut log.breaks more (ap (filter failed_cut) (sym is) ∙ none.0),
  ⊎_elim (λ all. inl (front-none failed_tear log.breaks more (ap (filter failed_tear) (sym is) ∙ all))) (λ own. inr (fewer own.0, own.1)) none.1,
)

-- what was found kept is told later
module _ (p : Break → Bool) (k : ℕ) (same : (b : Break) → p (with_kept k b) ≡ p b) where
  kept-none : (bs : List Break) → filter p (map (with_kept k) bs) ≡ [] → filter p bs ≡ []
  kept-none [] none = refl
  kept-none (b ∷ bs) none =
      by (p b) (sym (ap (λ (d : Bool). cond d (with_kept k b ∷ filter p (map (with_kept k) bs)) (filter p (map (with_kept k) bs))) (same b)) ∙ none) (kept-none bs)
    where
      by : (d : Bool) → cond d (with_kept k b ∷ filter p (map (with_kept k) bs)) (filter p (map (with_kept k) bs)) ≡ [] → (filter p (map (with_kept k) bs) ≡ [] → filter p bs ≡ []) → cond d (b ∷ filter p bs) (filter p bs) ≡ []
      by true is rest = absurd (cc)
      by false is rest = rest is

  from-none : (i : ℕ) (bs : List Break) → filter p (found_from i k bs) ≡ [] → filter p bs ≡ []
  from-none i bs none =
      ap (filter p) (sym (take-append-drop i bs)) ∙ filter-append p (take i bs) (drop i bs)
      ∙ (λ j. front-none p (take i bs) (map (with_kept k) (drop i bs)) none j ++ kept-none (drop i bs) (back-none p (take i bs) (map (with_kept k) (drop i bs)) none) j)

pub found-none : (o : Origin) (c : Card) (told : List ToldSecond) (i k : ℕ) (log : RunLog) → NoneFailedOn o (record log { breaks = found_from i k log.breaks }) told c → NoneFailedOn o log told c
found-none o c told i k log none = (from-none failed_cut k cut_same i log.breaks none.0, ⊎_elim (λ all. inl (from-none failed_tear k tear_same i log.breaks all)) (λ own. inr own) none.1)
  where
    cut_same : (b : Break) → failed_cut (with_kept k b) ≡ failed_cut b
    cut_same (Cut second kept failed begun) = refl
    cut_same (Tear second slot failed begun late) = refl

    tear_same : (b : Break) → failed_tear (with_kept k b) ≡ failed_tear b
    tear_same (Cut second kept failed begun) = refl
    tear_same (Tear second slot failed begun late) = refl

-- ---- the notes of one second more

same-self : (log : RunLog) (ss : List TraceSecond) → All (λ (x : TraceSecond). SameAt log log x.number) ss
same-self log [] = All-nil (λ (x : TraceSecond). SameAt log log x.number)
same-self log (s ∷ ss) = All-cons (λ (x : TraceSecond). SameAt log log x.number) s ss (record { cut = refl; torn = λ p slot. refl; found = λ p slot. refl }) (same-self log ss)

pub next-notes : (log : RunLog) (done : List TraceSecond) (s : TraceSecond) → notes_in log (done ++ s ∷ []) ≡ notes_in log done ++ noted_next log done s
next-notes log done s = second-notes log log done s (same-self log done)

-- where nothing was found in it no card is accepted
pub all-quiet : (c : Card) (xs ys : List Note) → AllByRecursion (NotAccepted c) xs → AllByRecursion (NotAccepted c) ys → AllByRecursion (NotAccepted c) (xs ++ ys)
all-quiet c [] ys one two = two
all-quiet c (x ∷ xs) ys one two = (one.0, all-quiet c xs ys one.1 two)

pub by-quiet : (c : Card) (log : RunLog) (u : ℕ) (a : CarriedOut) (act : Action) → AllByRecursion (NotAccepted c) (noted_by log u a act)
by-quiet c log u a (Select slot pick) = tt
by-quiet c log u a (Insert slot card) = tt
by-quiet c log u a (Withdraw slot) = by (is_torn_in log u (In (a.before + 1)) slot)
  where
    each : (cards : List Card) → AllByRecursion (NotAccepted c) (map (λ (card : Card). Withdraws (record { second = u; card = card })) cards)
    each [] = tt
    each (x ∷ cards) = (tt, each cards)

    by : (b : Bool) → AllByRecursion (NotAccepted c) (cond b [] (map (λ (card : Card). Withdraws (record { second = u; card = card })) (accepted_card (in_slot a.slots slot))))
    by true = tt
    by false = each (accepted_card (in_slot a.slots slot))
by-quiet c log u a (Pull slot) = tt
by-quiet c log u a (Manual slot pick minute) = tt
by-quiet c log u a (Place slot ending country region) = each (accepted_card (in_slot a.slots slot))
  where
    each : (cards : List Card) → AllByRecursion (NotAccepted c) (map (λ (card : Card). Enters (record { second = u; card = card; ending = ending; country = country; region = region })) cards)
    each [] = tt
    each (x ∷ cards) = (tt, each cards)

none-at : (d : Done) (p : Phase) → d.told.course.found ≡ [] → accepted_at d p ≡ []
none-at d p none =
    ap (λ (fs : List (Visit × Verdict)). map (λ (f : Visit × Verdict). Accepts (record { second = d.told.second.number; slot = f.0.slot; card = f.0.card })) (filter (λ (f : Visit × Verdict). same_phase f.0.phase p && is_accepting f.1) fs)) none

pub none-accepted : (c : Card) (log : RunLog) (d : Done) → d.told.course.found ≡ [] → AllByRecursion (NotAccepted c) (noted_in log d)
none-accepted c log d none =
    all-quiet c (accepted_at d (In 0)) (flat_map (λ (a : CarriedOut). noted_by log d.told.second.number a a.action ++ accepted_at d (In (a.before + 1))) d.carried)
    (subst (AllByRecursion (NotAccepted c)) (sym (none-at d (In 0) none)) tt) (each d.carried)
  where
    each : (as_ : List CarriedOut) → AllByRecursion (NotAccepted c) (flat_map (λ (a : CarriedOut). noted_by log d.told.second.number a a.action ++ accepted_at d (In (a.before + 1))) as_)
    each [] = tt
    each (a ∷ as_) =
        all-quiet c (noted_by log d.told.second.number a a.action ++ accepted_at d (In (a.before + 1))) (flat_map (λ (x : CarriedOut). noted_by log d.told.second.number x x.action ++ accepted_at d (In (x.before + 1))) as_)
        (all-quiet c (noted_by log d.told.second.number a a.action) (accepted_at d (In (a.before + 1))) (by-quiet c log d.told.second.number a a.action) (subst (AllByRecursion (NotAccepted c)) (sym (none-at d (In (a.before + 1)) none)) tt))
        (each as_)

-- a second without actions, in which nothing was found, notes nothing
pub idle-notes : (log : RunLog) (before : Before) (s : TraceSecond) → s.actions ≡ [] → (second_told log before s).course.found ≡ [] → noted_in log (done_by log before s) ≡ []
idle-notes log before s idle none = λ i.
    none-at (done_by log before s) (In 0) none i
    ++ flat_map (λ (a : CarriedOut). noted_by log (second_told log before s).second.number a a.action ++ accepted_at (done_by log before s) (In (a.before + 1))) (carried_ i)
  where
    none-by : (b : Bool) → cond {A = List CarriedOut} b [] [] ≡ []
    none-by true = refl
    none-by false = refl

    carried_ : (done_by log before s).carried ≡ []
    carried_ = ap (λ (as_ : List Action). cond (has_power before s) (carried_from log s 0 as_ (course_powered log before s)) []) idle ∙ none-by (has_power before s)

-- nor does one without power
pub dark-notes : (log : RunLog) (before : Before) (s : TraceSecond) → has_power before s ≡ false → noted_in log (done_by log before s) ≡ []
dark-notes log before s off = rw off refl

-- ---- the session times

pub opened-append : (c : Card) (sessions : ℕ → Visit → ℕ) (xs ys : List ToldSecond) → opened_on c sessions (xs ++ ys) ≡ opened_on c sessions xs ++ opened_on c sessions ys
opened-append c sessions xs ys = flat_map-append (opened_in c sessions) xs ys

-- of a second, by its number and what was found in it
pub opened-same : (c : Card) (sessions : ℕ → Visit → ℕ) (t u : ToldSecond) → t.second.number ≡ u.second.number → t.course.found ≡ u.course.found → opened_in c sessions t ≡ opened_in c sessions u
opened-same c sessions t u number found = λ i. flat_map (λ (f : Visit × Verdict). cond (same_card c f.0.card && is_accepting f.1) (sessions (number i) f.0 ∷ []) []) (found i)

pub opened-none : (c : Card) (sessions : ℕ → Visit → ℕ) (t : ToldSecond) → t.course.found ≡ [] → opened_in c sessions t ≡ []
opened-none c sessions t none = ap (flat_map (λ (f : Visit × Verdict). cond (same_card c f.0.card && is_accepting f.1) (sessions t.second.number f.0 ∷ []) [])) none

pub all-none : (c : Card) (sessions : ℕ → Visit → ℕ) (ts : List ToldSecond) → ((t : ToldSecond) → Contains ts t → t.course.found ≡ []) → opened_on c sessions ts ≡ []
all-none c sessions [] each = refl
all-none c sessions (t ∷ ts) each = λ i.
    opened-none c sessions t (each t (Contains-append_left (t ∷ []) ts t (Contains-push [] t))) i ++ all-none c sessions ts (λ u there. each u (Contains-append_right (t ∷ []) ts u there)) i

-- ---- ONE SECOND MORE

same-number : (n : ℕ) → nat_eq n n ≡ true
same-number n = grind (arith, nat_tests)

module _ (c : Card) (s : TraceSecond) (own sessions : ℕ → Visit → ℕ) where
  -- those of this second, and of others
  now-is : (t : ToldSecond) → t.second.number ≡ s.number → opened_in c (sessions_now s own sessions) t ≡ opened_in c own t
  now-is t number =
      let here : nat_eq t.second.number s.number ≡ true = ap (λ (n : ℕ). nat_eq n s.number) number ∙ same-number s.number in
      ap (λ (b : Bool). flat_map (λ (f : Visit × Verdict). cond (same_card c f.0.card && is_accepting f.1) (cond b (own t.second.number f.0) (sessions t.second.number f.0) ∷ []) []) t.course.found) here

  before-is : (ts : List ToldSecond) → ((t : ToldSecond) → Contains ts t → nat_eq t.second.number s.number ≡ false) → opened_on c (sessions_now s own sessions) ts ≡ opened_on c sessions ts
  before-is [] other = refl
  before-is (t ∷ ts) other = λ i.
      ap (λ (b : Bool). flat_map (λ (f : Visit × Verdict). cond (same_card c f.0.card && is_accepting f.1) (cond b (own t.second.number f.0) (sessions t.second.number f.0) ∷ []) []) t.course.found) (other t (Contains-append_left (t ∷ []) ts t (Contains-push [] t))) i
      ++ before-is ts (λ u there. other u (Contains-append_right (t ∷ []) ts u there)) i

module _ (o : Origin) (done : List TraceSecond) (p : Progress) (f : BookFollowsRun (rule_of o) (start_at o) o.from (first_of o) done p) (s : TraceSecond) (log : RunLog) (g : GoesOnBy p log s) where
  pub notes-before : notes_in log done ≡ notes_in p.log done
  notes-before = notes-alike p.log log done (same-before o done p f s log g)

  pub exact-on : (sessions own : ℕ → Visit → ℕ) → AreExact o p.log done sessions → AreExactIn o log done s own → AreExact o log (done ++ s ∷ []) (sessions_now s own sessions)
  exact-on sessions own before here c none valid =
      ap (opened_on c (sessions_now s own sessions)) (now-told (rule_of o) (start_at o) o.from (first_of o) done p f.order f.next f.unfound s log g)
      ∙ opened-append c (sessions_now s own sessions) (went p.log done).told (next_told log done s ∷ [])
      ∙ (λ i. front i ++ (append-nil (opened_in c (sessions_now s own sessions) (next_told log done s)) ∙ now-is c s own sessions (next_told log done s) (number-next o done p f s log g)) i)
      ∙ here c (subst (λ (ts : List ToldSecond). NoneFailedOn o log ts c) (ap (λ (w : Went). w.told) (went-more log done s)) none) valid
      ∙ ap (λ (l : List Note). times_of (uses_in o c l)) (sym (next-notes log done s))
    where
      others : (t : ToldSecond) → Contains (went p.log done).told t → nat_eq t.second.number s.number ≡ false
      others t there =
          let lt = (second-tells o done p f s log g (number-next o done p f s log g ∙ g.number)).before t there in
          let number = g.number in
          let less : t.second.number < s.number = omega (arith, lt, number) in
          grind (arith, nat_tests)

      front : opened_on c (sessions_now s own sessions) (went p.log done).told ≡ times_of (uses_in o c (notes_in log done))
      front =
          before-is c s own sessions (went p.log done).told others
          ∙ before c (failed-fewer o c p.log log g.breaks.0 (went p.log done).told ((went p.log done).told ++ next_told log done s ∷ []) g.breaks.1 (torn-front c (went p.log done).told (next_told log done s ∷ []))
          (subst (λ (ts : List ToldSecond). NoneFailedOn o log ts c) (now-told (rule_of o) (start_at o) o.from (first_of o) done p f.order f.next f.unfound s log g) none)) valid
          ∙ ap (λ (l : List Note). times_of (uses_in o c l)) (sym notes-before)

-- nothing was found yet: as a second begins
pub exact-begins : (o : Origin) (log : RunLog) (done : List TraceSecond) (s : TraceSecond) (own : ℕ → Visit → ℕ) → (seen_next log done s).told.course.found ≡ [] → AreExactIn o log done s own
exact-begins o log done s own none_found c none valid =
    ap (λ (us : List ℕ). times_of (uses_in o c (notes_in log done)) ++ us) (opened-none c own (seen_next log done s).told none_found) ∙ append-nil (times_of (uses_in o c (notes_in log done)))
    ∙ ap times_of (sym (uses-quiet (vehicle_in o) c (use_in (card_image o.recording c)) (notes_in log done) (noted_next log done s) (none-accepted c log (done_by log (went log done).before s) none_found)))

-- ---- a second without power, of which no break and no find is told
pub exact-dark : (o : Origin) (log later : RunLog) (done : List TraceSecond) (s : TraceSecond) (sessions : ℕ → Visit → ℕ) → later.breaks ≡ log.breaks → later.finds ≡ log.finds → All (λ (x : TraceSecond). SameAt log later x.number) done →
    (seen_next later done s).told.lit ≡ false → (second_told later (went later done).before s).course.found ≡ [] → AreExact o log done sessions → AreExact o later (done ++ s ∷ []) sessions
exact-dark o log later done s sessions breaks finds same lit found v c none valid =
    ap (λ (w : Went). opened_on c sessions w.told) (went-more later done s)
    ∙ opened-append c sessions (went later done).told (next_told later done s ∷ [])
    ∙ (λ i. opened_on c sessions (went-refused log later breaks finds done i).told ++ (append-nil (opened_in c sessions (next_told later done s)) ∙ opened-none c sessions (next_told later done s) found) i)
    ∙ append-nil (opened_on c sessions (went log done).told)
    ∙ v c (failed-fewer o c log later [] (went log done).told ((went log done).told ++ next_told later done s ∷ []) (breaks ∙ sym (append-nil log.breaks)) (torn-front c (went log done).told (next_told later done s ∷ []))
    (subst (λ (ts : List ToldSecond). NoneFailedOn o later ts c) (ap (λ (w : Went). w.told) (went-more later done s) ∙ ap (λ (w : Went). w.told ++ next_told later done s ∷ []) (went-refused log later breaks finds done)) none)) valid
    ∙ ap (λ (l : List Note). times_of (uses_in o c l)) (sym
    (next-notes later done s ∙ (λ i. notes-alike log later done same i ++ dark-notes later (went later done).before s (sym (told-lit later (went later done).before s) ∙ lit) i) ∙ append-nil (notes_in log done)))
