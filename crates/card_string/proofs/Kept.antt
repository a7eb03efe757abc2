-- What is carried of a string since the start gives what is stated of its overwriting since then.
use Rattle.std.proofs.Common.{◌≡◌, ⊎_elim, ℕ, ◌*◌, ◌/◌, ◌≤◌, Bool, true, false, cond, filter, IfSome, Option, Some, None, List, [], ◌∷◌, refl, sym, ◌∙◌, ap, subst, arith}
use Rattle.std.specs.Prelude.{nat_le}
use Rattle.std.specs.List.{AllByRecursion}
use Rattle.std.proofs.lemmas.Bool.Decides.{nat_tests}
use Rattle.std.proofs.lemmas.List.Elements.{All-from_recursion, All-contains}
use Rattle.card_by_hand.specs.activity_codec.declared.entries.Entry.{Entry}
use Rattle.card_by_hand.specs.activity_codec.declared.entries.Manual.{Manual}
use Rattle.card_by_hand.specs.activity_codec.declared.values.Activity.TheVariants.{Rest}
use Rattle.card_by_hand.specs.activity_codec.declared.values.Slot.TheVariants.{Driver}
use Rattle.tach_media.specs.card_layout.declared.files.Application.{Application}
use Rattle.tach_media.specs.card_layout.Application.{IsApplication}
use Rattle.card_by_hand.specs.card_retention.Entries.{last_entry}
use Rattle.card_by_hand.specs.card_retention.Expected.{WordDay, expected_days}
use Rattle.card_by_hand.specs.card_retention.Retains.{CardRetains}
use Rattle.card_by_hand.specs.card_retention.Shown.{InDays, AllIn}
use Rattle.card_by_hand.specs.card_image.Fields.{end_mark}
use Rattle.card_by_hand.specs.card_image.View.{Held, card_view}
use Rattle.card_by_hand.specs.card_image.Own.{own_sizes, own_view, own_covered, counted_view, expected_with, StandsFrom, KeepsFrom, KeepsOf, most_slack}
use Rattle.card_by_hand.specs.card_retention.ByHand.{and_by_hand}
use Rattle.card_by_hand.specs.hand_model.Written.{Written, Hands, IsPartOf, Rises, entries_of, hands_of}
use Rattle.card_by_hand.specs.Wider.{Wider}
use Rattle.card_by_hand.proofs.Wider.{wider_then, retains_wider, retains_oldest}
use Rattle.card_by_hand.proofs.Written.{among_wider, written_wider}
use Rattle.card_by_hand.specs.card_session.Repairs.{first_minute}
use Rattle.card_string.specs.Carried.{IsStated}
use Rattle.card_string.specs.Since.{minute_of, last_at, day_marks, all_since, bound_since, counted_since, GoesSince, BrokeSince, HoldsSince}
use Rattle.card_string.proofs.Stated.{goes_stated, broke_stated, begun_stated}
use Rattle.card_string.proofs.Clear.{before_in}
use Rattle.card_string.proofs.Lists.{counted_up}
use Rattle.card_string.proofs.Since.{holds_up}

-- the days that counted at the start are there, from the oldest on
module _ (mark o : ℕ) (days : List WordDay) where
  abbrev IsThere : WordDay → Type 0
  IsThere d = d.day ≤ mark / 1440 → o ≤ d.day → InDays d.day days

  each_there : (ds : List WordDay) → AllIn o (day_marks mark ds) days → AllByRecursion IsThere ds
  each_there [] all = tt
  each_there (d ∷ ds) all = by (nat_le d.day (mark / 1440)) refl all (λ rest. each_there ds rest)
    where
      le_not : (m n : ℕ) → nat_le m n ≡ false → m ≤ n → ⊥
      le_not m n is le = grind (arith, nat_tests)

      by : (b : Bool) → nat_le d.day (mark / 1440) ≡ b
          → AllIn o (cond b (record { minute = d.day * 1440; slot = Driver; crew = false; act = Rest } ∷ day_marks mark ds) (day_marks mark ds)) days → (AllIn o (day_marks mark ds) days → AllByRecursion IsThere ds) → AllByRecursion IsThere (d ∷ ds)
      by true is all later =
          let here : d.day * 1440 / 1440 ≡ d.day = omega arith in
          (λ low from. subst (λ (k : ℕ). InDays k days) here (all.0 (omega (arith, from))), later all.1)
      by false is all later = (λ low from. absurd (le_not d.day (mark / 1440) is low), later all)

stands_from : (image : List ℕ) (o : ℕ) (days : List WordDay) → AllIn o (day_marks (own_view image).mark (own_view image).held.days) days → StandsFrom image o days
stands_from image o days all d has low from =
    All-contains (IsThere (own_view image).mark o days) (own_view image).held.days d (All-from_recursion (IsThere (own_view image).mark o days) (own_view image).held.days (each_there (own_view image).mark o days (own_view image).held.days all)) has low from

slack_same : most_slack ≤ most_slack
slack_same = omega arith

-- the last entry at the start is not later than its minute
last_low : (image : List ℕ) → IfSome (counted_view (own_view image)).before (λ p. p.minute ≤ last_at image)
last_low image = by (last_entry (own_view image).held.entries)
  where
    by : (o : Option Entry) → IfSome o (λ p. p.minute ≤ minute_of o)
    by None = tt
    by (Some p) = omega arith

module _ (app : Application) (sound : IsApplication app) (image : List ℕ) (x : List ℕ) (start : own_sizes image ≡ app) (here : own_sizes x ≡ app) where
  abbrev Stated : List Written → ℕ → Type 0
  Stated ws n = IsStated app (bound_since image (entries_of ws)) (own_covered image) ((own_view image).mark / 1440) (counted_since image ws) (day_marks (own_view image).mark (own_view image).held.days) (all_since image (entries_of ws)) n x

  abbrev Retains : List Written → (bytes : ℕ) → List WordDay → Type 0
  Retains ws bytes expected =
      (r : CardRetains (own_sizes image).activity bytes ((own_view image).mark / 1440) expected (all_since image (entries_of ws)) (own_view x).held.days (own_view x).held.entries) × StandsFrom image r.oldest (own_view x).held.days

  -- as the card's own sizes tell it, by what was written
  own_stated : (ws : List Written) (n : ℕ) → Stated ws n → Retains ws most_slack (expected_days (own_covered image) n (counted_since image ws))
  unfolding own_view
  own_stated ws n stated =
      let there = subst
      (λ (a : Application). (r : CardRetains a.activity most_slack ((own_view image).mark / 1440) (expected_days (own_covered image) n (counted_since image ws)) (all_since image (entries_of ws)) (card_view app x).held.days (card_view app x).held.entries)
      × AllIn r.oldest (day_marks (own_view image).mark (own_view image).held.days) (card_view app x).held.days)
      (sym start) stated in
      let own = subst
      (λ (a : Application). (r : CardRetains (own_sizes image).activity most_slack ((own_view image).mark / 1440) (expected_days (own_covered image) n (counted_since image ws)) (all_since image (entries_of ws)) (card_view a x).held.days (card_view a x).held.entries)
      × AllIn r.oldest (day_marks (own_view image).mark (own_view image).held.days) (card_view a x).held.days)
      (sym here) there in
      (own.0, stands_from image own.0.oldest (card_view (own_sizes x) x).held.days own.1)

  -- more words, and the same days
  more_words : (ws : List Written) (counted expected : List WordDay) → Wider counted expected → Retains ws most_slack counted → Retains ws most_slack expected
  more_words ws counted expected wide k = (
    retains_wider (own_sizes image).activity most_slack most_slack ((own_view image).mark / 1440) counted expected (all_since image (entries_of ws)) (own_view x).held.days (own_view x).held.entries slack_same wide k.0,
    subst (λ (o : ℕ). StandsFrom image o (own_view x).held.days)
        (sym (retains_oldest (own_sizes image).activity most_slack most_slack ((own_view image).mark / 1440) counted expected (all_since image (entries_of ws)) (own_view x).held.days (own_view x).held.entries slack_same wide k.0)) k.1,
  )

  -- BY ITS ENTRIES ALONE, with a word more for each entry by hand that was given
  given_stated : (given : List Manual) (ws : List Written) (n : ℕ) → IsPartOf (hands_of ws) given → Rises (last_at image) ws → Stated ws n → Retains ws most_slack (and_by_hand given (expected_with image n (entries_of ws)))
  unfolding expected_with
  given_stated given ws n part order stated =
      more_words ws (expected_days (own_covered image) n (counted_since image ws)) (and_by_hand given (expected_with image n (entries_of ws)))
      (wider_then (expected_days (own_covered image) n (counted_since image ws)) (and_by_hand (hands_of ws) (expected_with image n (entries_of ws))) (and_by_hand given (expected_with image n (entries_of ws)))
      (written_wider (own_covered image) n (last_at image) (counted_view (own_view image)) ws order (last_low image)) (among_wider (expected_with image n (entries_of ws)) (hands_of ws) given part))
      (own_stated ws n stated)

  keeps_by : (given : List Manual) (ws : List Written) (from : ℕ) → IsPartOf (hands_of ws) given → Rises (last_at image) ws → ((n : ℕ) → from ≤ n → Stated ws n) → KeepsOf image given (all_since image (entries_of ws)) (own_view x).held
  keeps_by given ws from part order stated = (from, record { more = entries_of ws; begins = refl; keeps = λ n le. given_stated given ws n part order (stated n le) })

  goes_all : (ws : List Written) (next : ℕ) (s : GoesSince app image ws next x) (n : ℕ) → s.from ≤ n → Stated ws n
  goes_all ws next s n le =
      goes_stated app (bound_since image (entries_of ws)) (own_covered image) s.from ((own_view image).mark / 1440) (counted_since image ws) (day_marks (own_view image).mark (own_view image).held.days) (all_since image (entries_of ws)) x sound (omega arith) refl s.goes n le

  broke_all : (ws : List Written) (rest : List Entry) (next : ℕ) (s : BrokeSince app image ws rest next x) (n : ℕ) → s.from ≤ n → Stated ws n
  broke_all ws rest next s n le = ⊎_elim
      (λ broke. broke_stated app (bound_since image (entries_of ws)) (own_covered image) s.from ((own_view image).mark / 1440) (counted_since image ws) (day_marks (own_view image).mark (own_view image).held.days) (all_since image (entries_of ws)) x s.session refl broke n le)
      (λ begun.
      let at : end_mark app x / 1440 ≡ (own_view image).mark / 1440 = ⊎_elim (λ first. first) (λ in_. absurd (before_in (end_mark app x / 1440) (counted_since image ws).days begun.0.fresh in_)) s.tied.day in
      subst (λ (k : ℕ). IsStated app (bound_since image (entries_of ws)) (own_covered image) k (counted_since image ws) (day_marks (own_view image).mark (own_view image).held.days) (all_since image (entries_of ws)) n x) at
      (begun_stated app (bound_since image (entries_of ws)) (own_covered image) s.from (counted_since image ws) (day_marks (own_view image).mark (own_view image).held.days) (all_since image (entries_of ws)) x s.session refl begun.0 n le)) s.left

  own_mark : (own_view x).mark ≡ end_mark app x
  unfolding own_view card_view
  own_mark = ap (λ (a : Application). end_mark a x) here

  pub holds_counted : (h : Hands) (brought : List Entry) (next : ℕ) (k : HoldsSince app image h brought next x) → filter (λ (e : Entry). nat_le e.minute (own_view x).mark) brought ≡ entries_of k.written
  holds_counted h brought next k =
      ap (λ (m : ℕ). filter (λ (e : Entry). nat_le e.minute m) brought) own_mark ∙ ap (filter (λ (e : Entry). nat_le e.minute (end_mark app x))) k.split
      ∙ counted_up (end_mark app x) (entries_of k.written) k.rest (holds_up app image h brought next x k) k.behind

  pub holds_kept : (h : Hands) (brought : List Entry) (next : ℕ) → HoldsSince app image h brought next x → KeepsOf image h.given (all_since image (filter (λ (e : Entry). nat_le e.minute (own_view x).mark) brought)) (own_view x).held
  holds_kept h brought next k =
      subst (λ (l : List Entry). KeepsOf image h.given (all_since image l) (own_view x).held) (sym (holds_counted h brought next k))
      (⊎_elim
      (λ goes. keeps_by h.given k.written goes.from k.lie.only goes.tied.order (goes_all k.written (first_minute next k.rest) goes))
      (λ broke. keeps_by h.given k.written broke.from k.lie.only broke.tied.order (broke_all k.written k.rest next broke)) k.stands)

  -- and it goes on with the first entry that it lacks, or else where the next one may come
  from_by : (given : List Manual) (ws : List Written) (from next : ℕ) → from ≤ next → IsPartOf (hands_of ws) given → Rises (last_at image) ws → ((n : ℕ) → from ≤ n → Stated ws n) → KeepsFrom image given next (all_since image (entries_of ws)) (own_view x).held
  from_by given ws from next le part order stated = record { more = entries_of ws; begins = refl; keeps = λ n h. given_stated given ws n part order (stated n (omega (arith, h, le))) }

  pub holds_from : (h : Hands) (brought : List Entry) (next : ℕ) (k : HoldsSince app image h brought next x) → KeepsFrom image h.given (first_minute next k.rest) (all_since image (entries_of k.written)) (own_view x).held
  holds_from h brought next k = ⊎_elim
      (λ goes. from_by h.given k.written goes.from (first_minute next k.rest) goes.later k.lie.only goes.tied.order (goes_all k.written (first_minute next k.rest) goes))
      (λ broke. from_by h.given k.written broke.from (first_minute next k.rest) broke.later k.lie.only broke.tied.order (broke_all k.written k.rest next broke)) k.stands

-- ---- where more entries by hand were given, of which these are some

module _ (image : List ℕ) (given wider : List Manual) (part : IsPartOf given wider) (all : List Entry) (held : Held) where
  abbrev Retained : List Entry → ℕ → List Manual → Type 0
  Retained more n hands =
      (r : CardRetains (own_sizes image).activity most_slack ((own_view image).mark / 1440) (and_by_hand hands (expected_with image n more)) all held.days held.entries) × StandsFrom image r.oldest held.days

  given_more : (more : List Entry) (n : ℕ) → Retained more n given → Retained more n wider
  given_more more n r =
      let w : Wider (and_by_hand given (expected_with image n more)) (and_by_hand wider (expected_with image n more)) = among_wider (expected_with image n more) given wider part in (
        retains_wider (own_sizes image).activity most_slack most_slack ((own_view image).mark / 1440) (and_by_hand given (expected_with image n more)) (and_by_hand wider (expected_with image n more)) all held.days held.entries slack_same w r.0,
        subst (λ (o : ℕ). StandsFrom image o held.days)
            (sym (retains_oldest (own_sizes image).activity most_slack most_slack ((own_view image).mark / 1440) (and_by_hand given (expected_with image n more)) (and_by_hand wider (expected_with image n more)) all held.days held.entries slack_same w r.0)) r.1,
      )

  pub keeps_more : KeepsOf image given all held → KeepsOf image wider all held
  keeps_more kept = (kept.0, record { more = kept.1.more; begins = kept.1.begins; keeps = λ n le. given_more kept.1.more n (kept.1.keeps n le) })
