-- What is carried gives what is stated of a card's overwriting.
use Rattle.std.proofs.Common.{◌≡◌, ◌⊎◌, inl, inr, ⊎_elim, ℕ, suc, ◌/◌, ◌<◌, ◌≤◌, Bool, true, false, cond, ◌&&◌, ◌||◌, List, [], ◌∷◌, ◌++◌, length, refl, sym, ◌∙◌, ap, subst, arith}
use Rattle.std.specs.Prelude.{nat_eq, nat_lt}
use Rattle.std.proofs.lemmas.Bool.Decides.{nat_tests}
use Rattle.card_by_hand.specs.activity_codec.declared.entries.Entry.{Entry}
use Rattle.tach_media.specs.card_layout.Application.{IsApplication}
use Rattle.tach_media.specs.card_layout.declared.files.Application.{Application}
use Rattle.card_by_hand.specs.card_model.Days.{Day}
use Rattle.card_by_hand.specs.card_model.Changes.{trimmed}
use Rattle.card_by_hand.specs.card_retention.Expected.{WordDay, more, Counted, expected_days}
use Rattle.card_by_hand.specs.card_retention.Shown.{Bound, Covers, AllBefore, AllIn, InDays, Grows, sizes, size_day, is_open, owing, Shows, Rests}
use Rattle.card_by_hand.specs.card_retention.Retains.{is_day, entries_in, begun_on, HasBegun, CardRetains}
use Rattle.card_by_hand.specs.card_retention.Entries.{entries_up_to}
use Rattle.card_by_hand.proofs.card_retention.Entering.{closes_is, before_more}
use Rattle.card_by_hand.proofs.card_retention.Growing.{covers_fewer, more_grows, sizes_append}
use Rattle.card_by_hand.proofs.card_retention.ListTrims.{entries_trimmed, lists_trimmed}
use Rattle.card_by_hand.proofs.card_retention.Retaining.{covers_from, same_entries, is_day_owing}
use Rattle.card_by_hand.proofs.card_retention.Stops.{stop_none}
use Rattle.card_by_hand.specs.card_image.Fields.{card_days, end_mark, session_time}
use Rattle.card_by_hand.specs.card_image.View.{card_view, counting}
use Rattle.card_string.specs.Carried.{StringFollowsEntries, Broke, BegunOf, Begun, IsStated}

in_later : (oldest : ℕ) (first all : List Entry) (days : List WordDay) → AllIn oldest (first ++ all) days → AllIn oldest all days
in_later oldest [] all days in_ = in_
in_later oldest (e ∷ first) all days in_ = in_later oldest first all days in_.1

in_first : (oldest : ℕ) (first all : List Entry) (days : List WordDay) → AllIn oldest (first ++ all) days → AllIn oldest first days
in_first oldest [] all days in_ = tt
in_first oldest (e ∷ first) all days in_ = (in_.0, in_first oldest first all days in_.1)

-- a word more makes no day
in_less : (k : ℕ) (ws : List WordDay) → InDays k (more ws) → InDays k ws
in_less k [] i = i
in_less k (w ∷ []) i = i
in_less k (w ∷ v ∷ ws) i = ⊎_elim (λ at. inl at) (λ later. inr (in_less k (v ∷ ws) later)) i

in_sizes : (n mark k : ℕ) (ds : List Day) → InDays k (owing n mark ds) → InDays k (sizes ds)
in_sizes n mark k ds = by (is_open mark ds && nat_lt (suc mark) n)
  where
    by : (o : Bool) → InDays k (cond o (more (sizes ds)) (sizes ds)) → InDays k (sizes ds)
    by true i = in_less k (sizes ds) i
    by false i = i

all_sizes : (oldest n mark : ℕ) (es : List Entry) (ds : List Day) → AllIn oldest es (owing n mark ds) → AllIn oldest es (sizes ds)
all_sizes oldest n mark [] ds in_ = tt
all_sizes oldest n mark (e ∷ es) ds in_ = (λ le. in_sizes n mark (e.minute / 1440) ds (in_.0 le), all_sizes oldest n mark es ds in_.1)

grows_same : (ws : List WordDay) → Grows ws ws
grows_same [] = tt
grows_same (w ∷ ws) = (refl, omega arith, grows_same ws)

grows_owing : (n mark : ℕ) (ds : List Day) → Grows (sizes ds) (owing n mark ds)
grows_owing n mark ds = by (is_open mark ds && nat_lt (suc mark) n)
  where
    by : (o : Bool) → Grows (sizes ds) (cond o (more (sizes ds)) (sizes ds))
    by true = more_grows (sizes ds)
    by false = grows_same (sizes ds)

in_more : (k : ℕ) (ws vs : List WordDay) → InDays k ws → InDays k (ws ++ vs)
in_more k [] vs i = absurd i
in_more k (w ∷ ws) vs i = ⊎_elim (λ at. inl at) (λ later. inr (in_more k ws vs later)) i

all_more : (oldest : ℕ) (es : List Entry) (ws vs : List WordDay) → AllIn oldest es ws → AllIn oldest es (ws ++ vs)
all_more oldest [] ws vs in_ = tt
all_more oldest (e ∷ es) ws vs in_ = (λ le. in_more (e.minute / 1440) ws vs (in_.0 le), all_more oldest es ws vs in_.1)

not_day : (k : ℕ) (ws : List WordDay) → AllBefore k ws → is_day k ws ≡ false
not_day k [] b = refl
not_day k (w ∷ ws) b = by (nat_eq w.day k) (apart w.day k b.0) (not_day k ws b.1)
  where
    apart : (m n : ℕ) → m < n → nat_eq m n ≡ false
    apart m n lt = grind (arith, nat_tests)

    by : (a : Bool) → a ≡ false → is_day k ws ≡ false → a || is_day k ws ≡ false
    by false is rest = rest
    by true is rest = absurd (cc)

-- of days that keep the rule and show what their days have, and a day that was begun behind them, if there is one
module _ (size marked : ℕ) (slack : Bound) (covered from mark : ℕ) (c : Counted) (first all : List Entry) (is : slack.all ≡ first ++ all) (shown : List Entry) (n : ℕ) (le : from ≤ n) where
  abbrev pub StatedOf : List WordDay → Type 0
  StatedOf held = (r : CardRetains size slack.bytes marked (expected_days covered n c) all held shown) × AllIn r.oldest first held

  stated_on : (days : List Day) (held : List WordDay) → Rests size slack covered from mark c days → shown ≡ entries_in (sizes days) all
      → ((there : List WordDay) → Covers there (sizes days) → Covers there held ⊎ HasBegun marked (expected_days covered n c) there all held) → ((o : ℕ) → AllIn o first (sizes days) → AllIn o first held) → StatedOf held
  stated_on days held r lists covers more_days =
      let s : Shows size slack (expected_days covered n c) (owing n mark days) = r.shows n le in
      let whole : AllIn s.oldest (first ++ all) (owing n mark days) = subst (λ (l : List Entry). AllIn s.oldest l (owing n mark days)) is s.whole in (
        record {
          gone = s.gone;
          there = s.there;
          split = s.split;
          covers = covers s.there (covers_fewer s.there (sizes days) (owing n mark days) (grows_owing n mark days) s.covers);
          full = s.full;
          some = s.some;
          oldest = s.oldest;
          low = s.low;
          high = s.high;
          none = s.none;
          entries = lists ∙ same_entries s.oldest all (owing n mark days) (sizes days) (in_later s.oldest first all (owing n mark days) whole) (covers_from s.oldest s.there (owing n mark days) s.high s.covers) (λ k. is_day_owing n mark k days);
        },
        more_days s.oldest (all_sizes s.oldest n mark first days (in_first s.oldest first all (owing n mark days) whole)),
      )

  stated : (days : List Day) → Rests size slack covered from mark c days → shown ≡ entries_in (sizes days) all → StatedOf (sizes days)
  stated days r lists = stated_on days (sizes days) r lists (λ there covers. inl covers) (λ o in_. in_)

  stated_begun : (days : List Day) → marked ≡ mark / 1440 → (b : BegunOf size slack covered from mark c all days) → shown ≡ entries_in (sizes b.older) all → StatedOf (sizes (trimmed mark days))
  stated_begun days at b lists = subst StatedOf (sym held) (stated_on b.older (sizes b.older ++ begun_on marked ∷ []) b.rests lists
      (λ there covers. inr (record {
        older = sizes b.older;
        newest = refl;
        before = subst (λ (k : ℕ). AllBefore k (sizes b.older)) (sym at) b.before;
        covers = covers;
        further = not_day marked (expected_days covered n c) (subst (λ (k : ℕ). AllBefore k (expected_days covered n c)) (sym at) low);
        empty = subst (λ (k : ℕ). entries_in (begun_on k ∷ []) all ≡ []) (sym at) b.empty;
      }))
      (λ o in_. all_more o first (sizes b.older) (begun_on marked ∷ []) in_))
    where
      low : AllBefore (mark / 1440) (expected_days covered n c)
      low = closes_is (λ l. AllBefore (mark / 1440) l) covered c.before n c.days b.fresh (before_more (mark / 1440) c.days b.fresh)

      one_word : size_day b.young ≡ begun_on marked
      one_word = ap (λ (k : ℕ). record { day = k; words = length b.young.words }) (omega (arith, b.date, at)) ∙ ap (λ (ws : List ℕ). record { day = marked; words = length ws }) b.first

      held : sizes (trimmed mark days) ≡ sizes b.older ++ begun_on marked ∷ []
      held = ap sizes b.is ∙ sizes_append b.older (b.young ∷ []) ∙ ap (λ (d : WordDay). sizes b.older ++ d ∷ []) one_word

-- while a session is open those up to the end mark count
counting_open : (session mark : ℕ) (days : List Day) → 0 < session → counting session mark days ≡ trimmed mark days
counting_open session mark days begun = ap (λ (b : Bool). cond b days (trimmed mark days)) (apart session 0 begun)
  where
    apart : (m k : ℕ) → k < m → nat_eq m k ≡ false
    apart m k lt = grind (arith, nat_tests)

module _ (app : Application) (slack : Bound) (covered from marked : ℕ) (c : Counted) (first all : List Entry) (x : List ℕ) where
  abbrev Counts : ℕ → List Day → Type 0
  Counts n days = (r : CardRetains app.activity slack.bytes marked (expected_days covered n c) all (sizes days) (entries_up_to (end_mark app x) (card_days app x))) × AllIn r.oldest first (sizes days)

  pub broke_stated : 0 < session_time app x → slack.all ≡ first ++ all → Broke app slack covered from c all x → (n : ℕ) → from ≤ n → IsStated app slack covered marked c first all n x
  unfolding card_view
  broke_stated begun is b n le =
      subst (λ (ds : List Day). Counts n ds) (sym (counting_open (session_time app x) (end_mark app x) (card_days app x) begun))
      (stated app.activity marked slack covered from (end_mark app x) c first all is (entries_up_to (end_mark app x) (card_days app x)) n le (trimmed (end_mark app x) (card_days app x)) b.rests b.lists)

  goes_counts : IsApplication app → 16 ≤ slack.bytes → slack.all ≡ first ++ all → StringFollowsEntries app slack covered from c all x → (n : ℕ) → from ≤ n → (o : Bool) → Counts n (cond o (card_days app x) (trimmed (end_mark app x) (card_days app x)))
  goes_counts sound least is g n le true =
      stated app.activity marked slack covered from (end_mark app x) c first all is (entries_up_to (end_mark app x) (card_days app x)) n le (card_days app x) g.lives.rests g.lists
  goes_counts sound least is g n le false =
      stated app.activity marked slack covered from (end_mark app x) c first all is (entries_up_to (end_mark app x) (card_days app x)) n le (trimmed (end_mark app x) (card_days app x))
      (stop_none app.activity slack covered from (end_mark app x) c (card_days app x) g.lives from (omega arith) sound.string_least least)
      (sym (entries_trimmed (end_mark app x) 0 (card_days app x) g.lives.rests.ordered) ∙ lists_trimmed (end_mark app x) all (card_days app x) g.lives.rests.ordered g.until g.lists)

  pub goes_stated : IsApplication app → 16 ≤ slack.bytes → slack.all ≡ first ++ all → StringFollowsEntries app slack covered from c all x → (n : ℕ) → from ≤ n → IsStated app slack covered marked c first all n x
  unfolding card_view
  goes_stated sound least is g n le = goes_counts sound least is g n le (nat_eq (session_time app x) 0)

module _ (app : Application) (slack : Bound) (covered from : ℕ) (c : Counted) (first all : List Entry) (x : List ℕ) where
  pub begun_stated : 0 < session_time app x → slack.all ≡ first ++ all → Begun app slack covered from c all x → (n : ℕ) → from ≤ n → IsStated app slack covered (end_mark app x / 1440) c first all n x
  unfolding card_view
  begun_stated begun is b n le =
      subst (λ (ds : List Day). (r : CardRetains app.activity slack.bytes (end_mark app x / 1440) (expected_days covered n c) all (sizes ds) (entries_up_to (end_mark app x) (card_days app x))) × AllIn r.oldest first (sizes ds))
      (sym (counting_open (session_time app x) (end_mark app x) (card_days app x) begun))
      (stated_begun app.activity (end_mark app x / 1440) slack covered from (end_mark app x) c first all is (entries_up_to (end_mark app x) (card_days app x)) n le (card_days app x) refl b b.lists)
