-- A call on a card, by what it leaves of its images: what it has acknowledged, what was brought, its string.
use Rattle.std.proofs.Common.{◌≡◌, ◌-◌, ◌⊎◌, inl, inr, ⊎_elim, ℕ, suc, max, ◌/◌, ◌≤◌, true, Option, Some, None, is_some, List, [], ◌∷◌, All, Contains, refl, ap, subst, ◌∙◌, sym, arith}
use Rattle.std.proofs.lemmas.List.Elements.{All-weaker, All-nil, All-cons, All-head, All-tail}
use Rattle.device_calls.specs.activity_codec.declared.entries.Manual.{Manual}
use Rattle.device_calls.specs.trace_model.declared.Card.{Card}
use Rattle.tach_media.specs.Medium.{State, IsCoherent, LeavesOnly, Unchanged, IsSettled}
use Rattle.tach_media.proofs.Runs.{weaken}
use Rattle.run_crew.specs.log_model.declared.lines.Mark.{Mark}
use Rattle.run_crew.specs.log_model.Causes.{device_of}
use Rattle.tach_media.specs.card_layout.declared.files.Application.{Application}
use Rattle.tach_media.specs.card_layout.declared.files.Fid.{Fid}
use Rattle.tach_media.specs.card_layout.Application.{IsApplication}
use Rattle.device_calls.specs.card_image.View.{CardView}
use Rattle.device_calls.specs.card_image.Judging.{IsValid}
use Rattle.device_calls.specs.card_retention.Retains.{is_day}
use Rattle.device_calls.specs.card_retention.Shown.{sizes}
use Rattle.device_calls.specs.card_image.Fields.{card_days, card_number, file_bytes}
use Rattle.device_calls.specs.card_image.Own.{own_view, own_sizes, own_number, own_bad_file, IsOwnValid}
use Rattle.device_calls.specs.card_string.Since.{HoldsSince}
use Rattle.device_calls.proofs.card_string.Images.{holds_part, holds_all, holds_stay, holds_sure}
use Rattle.device_calls.proofs.card_string.Kept.{holds_kept}
use Rattle.device_calls.specs.hand_model.AtStart.{HasDayOf}
use Rattle.device_calls.specs.hand_model.ByHand.{by_hand_in}
use Rattle.device_calls.specs.hand_model.Holding.{AreOfDay}
use Rattle.device_calls.specs.hand_model.Written.{Hands}
use Rattle.device_calls.specs.history_model.Book.{Book}
use Rattle.device_calls.specs.device_rule.Device.{LeavesViews}
use Rattle.device_calls.specs.device_rule.Rules.{Standing, In, since, CardDark}
use Rattle.device_calls.specs.device_rule.Marked.{of_card, HasBrought}
use Rattle.device_calls.proofs.device_rule.Staying.{marks-stay}
use Rattle.device_calls.proofs.device_rule.Viewed.{seen-run}
use Rattle.device_calls.specs.unit_rule.Unit.{marks_of}
use Rattle.device_calls.specs.unit_rule.Rule.{Started}
use Rattle.device_calls.specs.unit_rule.Marks.{UnitFollowsBook}
use Rattle.run_promise.specs.Found.{CardFound, Found, found_of, unit_seen, AnyKept}
use Rattle.device_calls.specs.unit_rule.Cards.{mark_writes, IsPromptOn, HasStood}
use Rattle.device_calls.specs.card_string.Deeds.{IsMadeSince}
use Rattle.device_calls.proofs.card_string.MadeSince.{since_then, since_same}
use Rattle.run_promise.specs.Cards.{brought_by, IsCardHeld, CardMarksHold, FirstKeep, IsFirstHeld, HandMarksHold}
use Rattle.run_devices.specs.Registered.{TellsOfTwo}
use Rattle.run_devices.specs.Strung.{HasSameRest, CardHoldsString, HasSameHolder}
use Rattle.run_promise.specs.Stays.{NoMarkFalls}
use Rattle.run_promise.proofs.Stays.{stays, adds-none}
use Rattle.run_devices.proofs.Parts.{left-one}
use Rattle.run_devices.proofs.Holders.{HaveSameRest}
use Rattle.device_calls.specs.run_model.declared.Device.{Device}

-- ---- validity by the card's own sizes

pub own-valid : (app : Application) (x : List ℕ) → own_sizes x ≡ app → IsOwnValid x → IsValid app x
unfolding own_bad_file
own-valid app x is valid = subst (λ (a : Application). IsValid a x) is valid

pub valid-own : (app : Application) (x : List ℕ) → own_sizes x ≡ app → IsValid app x → IsOwnValid x
unfolding own_bad_file
valid-own app x is valid = subst (λ (a : Application). IsValid a x) (sym is) valid

-- and its number
pub number-own : (app : Application) (x : List ℕ) → own_sizes x ≡ app → own_number x ≡ card_number app x
unfolding own_number
number-own app x is = ap (λ (a : Application). card_number a x) is

pub own-number-still : (app : Application) (x n : List ℕ) → own_sizes x ≡ app → own_sizes n ≡ app → card_number app n ≡ card_number app x → own_number n ≡ own_number x
own-number-still app x n is is_then same = number-own app n is_then ∙ same ∙ sym (number-own app x is)

-- and its holder
pub own-holder-still : (app : Application) (x n : List ℕ) → own_sizes x ≡ app → own_sizes n ≡ app → card_number app n ≡ card_number app x → HaveSameRest app x n → HasSameHolder x n
own-holder-still app x n is is_then same alike = record {
  number = own-number-still app x n is is_then same;
  identification = ap (λ (a : Application). file_bytes a 0x0520 n) is_then ∙ alike.identification ∙ sym (ap (λ (a : Application). file_bytes a 0x0520 x) is);
  sizes = is_then ∙ sym is;
  rest = subst (λ (a : Application). HasSameRest a x n) (sym is) alike.rest;
}

pub same-holder : (start : List ℕ) → HasSameHolder start start
same-holder start = record { number = refl; identification = refl; sizes = refl; rest = record { front = refl; faults = refl; behind = λ n. refl } }

pub then-holder : (start x n : List ℕ) → HasSameHolder start x → HasSameHolder x n → HasSameHolder start n
then-holder start x n first next =
    let again : HasSameRest (own_sizes start) x n = subst (λ (a : Application). HasSameRest a x n) first.sizes next.rest in record {
      number = next.number ∙ first.number;
      identification = next.identification ∙ first.identification;
      sizes = next.sizes ∙ first.sizes;
      rest = record { front = again.front ∙ first.rest.front; faults = again.faults ∙ first.rest.faults; behind = λ m. again.behind m ∙ first.rest.behind m };
    }

pub valid-or : (x : List ℕ) → IsOwnValid x ⊎ (IsOwnValid x → ⊥)
valid-or x = by (own_bad_file x) refl
  where
    some-none : (p : Fid × ℕ) → Some p ≡ None → ⊥
    some-none p is = cc

    by : (o : Option (Fid × ℕ)) → own_bad_file x ≡ o → IsOwnValid x ⊎ (IsOwnValid x → ⊥)
    by None is = inl is
    by (Some p) is = inr (λ valid. some-none p (sym is ∙ valid))

-- a card that was not valid has acknowledged nothing
pub no-marks : (f : Found) (c : Card) (b : Book) (marks : List Mark) (X Y : State) → (IsOwnValid (found_of f c).image → ⊥) → CardMarksHold (found_of f c) c b marks X → CardMarksHold (found_of f c) c b marks Y
no-marks f c b marks X Y bad h = record {
  held = subst (All (IsCardHeld (found_of f c) c b Y)) (sym (h.none bad)) (All-nil (IsCardHeld (found_of f c) c b Y));
  rise = h.rise;
  none = h.none;
}

-- a card that is in a slot is there since one second
pub time-of : (s t n : ℕ) → In s n ≡ In t n → s ≡ t
time-of s t n is = cc

-- ---- no end mark falls

abbrev pub Rises : CardView → CardView → Type 0
Rises v w = v.mark ≤ w.mark

pub rises-run : (R : List ℕ → List ℕ → Type 0) (X Y : State) → IsCoherent X → LeavesOnly X Y R → ((x y : List ℕ) → X.image ≡ Some x → R x y → (own_view x).mark ≤ (own_view y).mark) → LeavesViews (of_card X) (of_card Y) Rises
rises-run R X Y whole run rises = seen-run own_view (λ x y. (own_view x).mark ≤ (own_view y).mark) Rises X Y whole (weaken run rises) (λ x y le. le)

pub none-falls : (X Y : State) → LeavesViews (of_card X) (of_card Y) Rises → NoMarkFalls X Y
none-falls X Y run w there = ⊎_elim (λ was. (w, was, omega arith)) (λ here. (here.0, here.1, here.2)) (run.now w there)

-- what might have been left of it before might still
abbrev pub KeepsLeft : (X Y : State) → Type 0
KeepsLeft X Y = (t : ℕ) (x : List ℕ) → t ≤ X.clock → X.left_since t x → Y.left_since t x

-- a mark stays one that was told at once
pub prompt-on : (X Y : State) (m : Mark) → KeepsLeft X Y → m.clock ≤ X.clock → IsPromptOn X m → IsPromptOn Y m
prompt-on X Y m keeps within was = (was.0, keeps (m.clock - mark_writes) was.0 (omega (arith, within)) was.1, was.2)

-- what stood stands, over a call that makes each image of the one before, since that minute
pub stood-on : (app : Application) (R : List ℕ → List ℕ → Type 0) (X Y : State) (m : Mark) → IsCoherent X → LeavesOnly X Y R → m.clock ≤ X.clock → ((x y : List ℕ) → X.image ≡ Some x → R x y → IsMadeSince app m.minute x y) → HasStood app X m → HasStood app Y m
stood-on app R X Y m whole run within made was = (
  was.0,
  run.keeps m.clock was.0 within was.1,
  λ y left. ⊎_elim (λ before. was.2 y before)
      (λ one. since_then app m.minute was.0 one.0 y (was.2 one.0 (whole.counts_now m.clock one.0 within (whole.is_left one.0 one.1))) (made one.0 y one.1 one.2))
      (run.since m.clock y within left),
)

-- and it stands at a mark of now
pub stood-now : (app : Application) (device : Device) (minute : ℕ) (Y : State) → IsCoherent Y → IsSettled Y → (z : List ℕ) → Y.image ≡ Some z → HasStood app Y (record { device = device; minute = minute; clock = Y.clock })
stood-now app device minute Y whole settled z told = (
  z,
  whole.counts_now Y.clock z (omega arith) (whole.is_left z told),
  λ x left. subst (λ (y : List ℕ). IsMadeSince app minute z y) (alone z x (sym told ∙ settled x left)) (since_same app minute z z refl),
)
  where
    alone : (p q : List ℕ) → Some p ≡ Some q → p ≡ q
    alone p q is = cc

-- what it has acknowledged
pub marks-on : (f : CardFound) (c : Card) (b : Book) (marks : List Mark) (R : List ℕ → List ℕ → Type 0) (X Y : State) → IsCoherent X → LeavesOnly X Y R → ((n : ℕ) (x y : List ℕ) → X.image ≡ Some x → n ≤ (own_view x).mark → R x y → IsMadeSince (own_sizes f.image) n x y) →
    LeavesViews (of_card X) (of_card Y) Rises → CardMarksHold f c b marks X → CardMarksHold f c b marks Y
marks-on f c b marks R X Y whole run made views h = record {
  held = All-weaker (IsCardHeld f c b X) (IsCardHeld f c b Y) (λ m k. record {
    began = k.began;
    holds = marks-stay Rises X Y whole views (λ v w on le. le) m.minute m.clock k.holds;
    prompt = prompt-on X Y m run.keeps k.holds.0 k.prompt;
    stood = stood-on (own_sizes f.image) R X Y m whole run k.holds.0
        (λ x y is on. made m.minute x y is (k.holds.1 (own_view x) (x, whole.counts_now m.clock x k.holds.0 (whole.is_left x is), refl)) on) k.stood;
    sure = k.sure;
  }) (marks_of (device_of c) marks) h.held;
  rise = h.rise;
  none = h.none;
}

-- what was brought
pub brought-card : (f : Found) (c : Card) (k : ℕ) (b : Book) (y z : Standing) (s : Started) (due : ℕ) (marks : List Mark) (U V X Y : State) → IsCoherent U → is_some U.image ≡ true → UnitFollowsBook s due b marks U → b.maybe ≡ None
    → CardDark c (found_of f c).start AnyKept (found_of f c).began b y (unit_seen f U) (of_card X) → CardDark c (found_of f c).start AnyKept (found_of f c).began b z (unit_seen f V) (of_card Y) → NoMarkFalls X Y
    → HasBrought f.card_a.number f.card_b.number c k U X → HasBrought f.card_a.number f.card_b.number c k V Y
brought-card f c k b y z s due marks U V X Y whole tells h none before behind rises = stays f c k b b y z U X V Y (record {
  some = left-one U whole tells;
  sure = λ u on. ((h.unit_holds f.card_a.number f.card_b.number).now u on).sure;
  before = before;
  behind = behind;
  rises = rises;
  adds = adds-none c (found_of f c).start k b none;
})

-- ---- the string, image by image

-- where the next entry may come
abbrev pub bound_of : CardFound → Standing → List ℕ → ℕ
bound_of f z x = suc (max f.start.word (since z (own_view x).newest))

module _ (f : CardFound) (hd : Hands) (c : Card) (b : Book) (sound : IsApplication (own_sizes f.image)) where
  abbrev Holds_at : Standing → List ℕ → Type 0
  Holds_at z x = (own_sizes x ≡ own_sizes f.image) × HoldsSince (own_sizes f.image) f.image hd (brought_by c f.start b) (bound_of f z x) x

  pub held-on : (y z : Standing) (R : List ℕ → List ℕ → Type 0) (X Y : State) → f.began ≤ X.clock → LeavesOnly X Y R → ((x : List ℕ) → X.may_leave x → Holds_at y x → Holds_at z x) → ((x n : List ℕ) → X.image ≡ Some x → R x n → Holds_at y x → Holds_at z n)
      → ((x n : List ℕ) → X.image ≡ Some x → R x n → HasSameHolder x n)
      → ((x n : List ℕ) → X.image ≡ Some x → R x n → own_sizes x ≡ own_sizes f.image → TellsOfTwo (own_sizes f.image) f.vehicle f.image x → TellsOfTwo (own_sizes f.image) f.vehicle f.image n)
      → IsCoherent X → CardHoldsString f hd c b y X → CardHoldsString f hd c b z Y
  held-on y z R X Y began run still made same names whole h = record {
    tells = run.tells ∙ h.tells;
    now = λ n there. ⊎_elim (λ was. still n was (h.now n was)) (λ one. made one.0 n one.1 one.2 (h.now one.0 (whole.is_left one.0 one.1))) (run.now n there);
    since = λ n left. ⊎_elim (h.since n)
        (λ one. let is = made one.0 n one.1 one.2 (h.now one.0 (whole.is_left one.0 one.1)) in (is.0, holds_kept (own_sizes f.image) sound f.image n refl is.0 hd (brought_by c f.start b) (bound_of f z n) is.1)) (run.since f.began n began left);
    told = λ n left. ⊎_elim (h.told n)
        (λ one. holds_part (own_sizes f.image) f.image hd (brought_by c f.start b) (bound_of f z n) n (made one.0 n one.1 one.2 (h.now one.0 (whole.is_left one.0 one.1))).1) (run.since f.began n began left);
    behind = λ n left none. ⊎_elim (λ was. h.behind n was none)
        (λ one. let is = made one.0 n one.1 one.2 (h.now one.0 (whole.is_left one.0 one.1)) in holds_all (own_sizes f.image) f.image hd (brought_by c f.start b) (bound_of f z n) n is.0 is.1 none) (run.since f.began n began left);
    stay = λ n left. ⊎_elim (h.stay n)
        (λ one. holds_stay (own_sizes f.image) f.image hd (brought_by c f.start b) (bound_of f z n) n (made one.0 n one.1 one.2 (h.now one.0 (whole.is_left one.0 one.1))).1) (run.since f.began n began left);
    number = λ n there. ⊎_elim (h.number n) (λ one. (same one.0 n one.1 one.2).number ∙ h.number one.0 (whole.is_left one.0 one.1)) (run.now n there);
    still = λ n left. ⊎_elim (h.still n) (λ one. then-holder f.image one.0 n (h.still one.0 (whole.counts_now f.began one.0 began (whole.is_left one.0 one.1))) (same one.0 n one.1 one.2)) (run.since f.began n began left);
    registered = λ n left. ⊎_elim (h.registered n)
        (λ one. let there = whole.is_left one.0 one.1 in names one.0 n one.1 one.2 (h.now one.0 there).0 (h.registered one.0 (whole.counts_now f.began one.0 began there)))
        (run.since f.began n began left);
  }

  -- a session's first keep that was acknowledged: each image since its mark that has its day tells its entries by hand
  pub hands-on : (firsts : List FirstKeep) (y z : Standing) (R : List ℕ → List ℕ → Type 0) (X Y : State) → LeavesOnly X Y R → ((x n : List ℕ) → X.image ≡ Some x → R x n → Holds_at y x → Holds_at z n) → IsCoherent X → CardHoldsString f hd c b y X → HandMarksHold f hd firsts X
      → HandMarksHold f hd firsts Y
  hands-on firsts y z R X Y run made whole h marks = All-weaker (IsFirstHeld f hd X) (IsFirstHeld f hd Y) (λ k one. record {
    clock = omega (arith, one.clock, run.later);
    day = one.day;
    sure = one.sure;
    told = λ n left day. ⊎_elim
        (λ was. one.told n was day)
        (λ new. told-sure k.hands k.mark.minute n one.day one.sure (made new.0 n new.1 new.2 (h.now new.0 (whole.is_left new.0 new.1))) day)
        (run.since k.mark.clock n one.clock left);
  }) firsts marks
    where
      same-day : (m n : ℕ) (x : List ℕ) → n / 1440 ≡ m / 1440 → HasDayOf m (own_sizes f.image) x → HasDayOf n (own_sizes f.image) x
      same-day m n x is has = subst (λ (k : ℕ). is_day k (sizes (card_days (own_sizes f.image) x)) ≡ true) (sym is) has

      told-sure : (es : List Manual) (m : ℕ) (n : List ℕ) → AreOfDay (m / 1440) es → All (λ e. Contains hd.sure e) es → Holds_at z n → HasDayOf m (own_sizes f.image) n → All (λ e. Contains (by_hand_in (own_sizes f.image) n) e) es
      told-sure [] m n days sure holds day = All-nil (λ (e : Manual). Contains (by_hand_in (own_sizes f.image) n) e)
      told-sure (e ∷ es) m n days sure holds day = All-cons (λ (e : Manual). Contains (by_hand_in (own_sizes f.image) n) e) e es
          (holds_sure (own_sizes f.image) f.image hd (brought_by c f.start b) (bound_of f z n) n e holds.1 (All-head (λ (d : Manual). Contains hd.sure d) e es sure) (same-day m e.minute n days.0 day))
          (told-sure es m n days.1 (All-tail (λ (d : Manual). Contains hd.sure d) e es sure) holds day)

-- a card that was only read
pub hands-read : (f : CardFound) (hd : Hands) (firsts : List FirstKeep) (X Y : State) → LeavesOnly X Y Unchanged → HandMarksHold f hd firsts X → HandMarksHold f hd firsts Y
hands-read f hd firsts X Y run marks = All-weaker (IsFirstHeld f hd X) (IsFirstHeld f hd Y) (λ k one. record {
  clock = omega (arith, one.clock, run.later);
  day = one.day;
  sure = one.sure;
  told = λ n left day. ⊎_elim (λ was. one.told n was day) (λ new. absurd new.2) (run.since k.mark.clock n one.clock left);
}) firsts marks

pub held-read : (f : CardFound) (hd : Hands) (c : Card) (b : Book) (z : Standing) (X Y : State) → f.began ≤ X.clock → LeavesOnly X Y Unchanged → CardHoldsString f hd c b z X → CardHoldsString f hd c b z Y
held-read f hd c b z X Y began run h = record {
  tells = run.tells ∙ h.tells;
  now = λ n there. ⊎_elim (h.now n) (λ one. absurd one.2) (run.now n there);
  since = λ n left. ⊎_elim (h.since n) (λ one. absurd one.2) (run.since f.began n began left);
  told = λ n left. ⊎_elim (h.told n) (λ one. absurd one.2) (run.since f.began n began left);
  behind = λ n left. ⊎_elim (h.behind n) (λ one. absurd one.2) (run.since f.began n began left);
  stay = λ n left. ⊎_elim (h.stay n) (λ one. absurd one.2) (run.since f.began n began left);
  number = λ n there. ⊎_elim (h.number n) (λ one. absurd one.2) (run.now n there);
  still = λ n left. ⊎_elim (h.still n) (λ one. absurd one.2) (run.since f.began n began left);
  registered = λ n left. ⊎_elim (h.registered n) (λ one. absurd one.2) (run.since f.began n began left);
}

-- each image since the start is valid still
pub valid-on : (began : ℕ) (R : List ℕ → List ℕ → Type 0) (X Y : State) → began ≤ X.clock → LeavesOnly X Y R → ((x n : List ℕ) → X.image ≡ Some x → R x n → IsOwnValid n) → ((x : List ℕ) → X.left_since began x → IsOwnValid x) → (n : List ℕ) → Y.left_since began n → IsOwnValid n
valid-on began R X Y le run made each n left = ⊎_elim (each n) (λ one. made one.0 n one.1 one.2) (run.since began n le left)

-- an image that is told behind a call on a card that worked is the one before, or made by the call
pub told-on : (R : List ℕ → List ℕ → Type 0) (X Y : State) → IsCoherent X → IsCoherent Y → X.works ≡ true → LeavesOnly X Y R → (n : List ℕ) → Y.image ≡ Some n → (x : List ℕ) × (X.image ≡ Some x) × ((n ≡ x) ⊎ R x n)
told-on R X Y before after works run n is = ⊎_elim
    (λ was. (n, before.only n works was, inl refl))
    (λ one. (one.0, one.1, inr one.2)) (run.now n (after.is_left n is))
