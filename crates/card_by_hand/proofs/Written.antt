-- What was written counts no more words than its entries alone with a word more for each entry by hand.
use Rattle.std.proofs.Common.{◌≡◌, ⊎_elim, ℕ, suc, ◌+◌, ◌/◌, ◌%◌, ◌<◌, ◌≤◌, Bool, true, false, cond, Option, Some, None, IfSome, List, [], ◌∷◌, ◌++◌, refl, sym, ◌∙◌, ap, subst, arith, append_assoc}
use Rattle.std.specs.Prelude.{◌&&◌, not, nat_eq, nat_lt}
use Rattle.std.proofs.lemmas.Bool.Decides.{nat_tests}
use Rattle.std.proofs.lemmas.List.{append-nil}
use Rattle.activity_codec.specs.declared.entries.Entry.{Entry}
use Rattle.activity_codec.specs.declared.entries.Manual.{Manual}
use Rattle.activity_codec.specs.Activity.{same_slot, same_activity}
use Rattle.card_session.specs.card_retention.Expected.{WordDay, Counted, more, is_newest, is_closed, closes, goes_on, adds, same_bool, first_words, with_entry, counted, expected_days}
use Rattle.card_session.proofs.card_retention.Entering.{newest_more}
use Rattle.card_session.specs.card_retention.ByHand.{on_day, and_by_hand, with_by_hand}
use Rattle.hand_model.specs.Written.{Written, Written.Minute, Written.ByHand, Rises, GoesOnIn, IsPartOf, entries_of, hands_of, counted_by}
use Rattle.card_by_hand.specs.Wider.{Wider, with_hands, AreOnDay}
use Rattle.card_by_hand.proofs.Wider.{wider_then as wider_chain, counted_wider, entry_wider, expected_wider}

-- ---- words more for entries by hand

on_append : (k : ℕ) (a b : List Manual) → on_day k (a ++ b) ≡ on_day k a + on_day k b
on_append k [] b = omega arith
on_append k (h ∷ a) b = by (nat_eq (h.minute / 1440) k) (on_append k a b)
  where
    by : (t : Bool) → on_day k (a ++ b) ≡ on_day k a + on_day k b → cond t (on_day k (a ++ b) + 1) (on_day k (a ++ b)) ≡ cond t (on_day k a + 1) (on_day k a) + on_day k b
    by true is = omega (arith, is)
    by false is = is

-- once more
hands_twice : (a b : List Manual) (ds : List WordDay) → Wider (and_by_hand b (and_by_hand a ds)) (and_by_hand (a ++ b) ds)
hands_twice a b [] = tt
hands_twice a b (d ∷ ds) = (refl, omega (arith, on_append d.day a b), hands_twice a b ds)

hands_wider : (es : List Manual) (ws vs : List WordDay) → Wider ws vs → Wider (and_by_hand es ws) (and_by_hand es vs)
hands_wider es [] [] wide = tt
hands_wider es [] (v ∷ vs) wide = absurd wide
hands_wider es (w ∷ ws) [] wide = absurd wide
hands_wider es (w ∷ ws) (v ∷ vs) wide = (wide.0, omega (arith, wide.1, ap (λ (k : ℕ). on_day k es) wide.0), hands_wider es ws vs wide.2)

on_part : (k : ℕ) (some all : List Manual) → IsPartOf some all → on_day k some ≤ on_day k all
on_part k [] all p = omega arith
on_part k (x ∷ some) [] p = absurd p
on_part k (x ∷ some) (y ∷ all) p = ⊎_elim
    (λ is. let same : on_day k (x ∷ some) ≡ on_day k (y ∷ some) = ap (λ (m : Manual). on_day k (m ∷ some)) is.0 in omega (arith, same, both (nat_eq (y.minute / 1440) k) (on_part k some all is.1)))
    (λ on. omega (arith, on_part k (x ∷ some) all on, low (nat_eq (y.minute / 1440) k))) p
  where
    both : (t : Bool) → on_day k some ≤ on_day k all → cond t (on_day k some + 1) (on_day k some) ≤ cond t (on_day k all + 1) (on_day k all)
    both true le = omega (arith, le)
    both false le = le

    low : (t : Bool) → on_day k all ≤ cond t (on_day k all + 1) (on_day k all)
    low true = omega arith
    low false = omega arith

pub among_wider : (days : List WordDay) (some all : List Manual) → IsPartOf some all → Wider (and_by_hand some days) (and_by_hand all days)
among_wider [] some all p = tt
among_wider (d ∷ ds) some all p = (refl, omega (arith, on_part d.day some all p), among_wider ds some all p)

-- ---- a session's entries by hand and its first entry

wider_up : (ds : List WordDay) → Wider ds (more ds)
wider_up [] = tt
wider_up (d ∷ []) = (refl, omega arith, tt)
wider_up (d ∷ e ∷ ds) = (refl, omega arith, wider_up (e ∷ ds))

append_wider : (ws vs : List WordDay) (d : WordDay) → Wider ws vs → Wider (ws ++ d ∷ []) (vs ++ d ∷ [])
append_wider [] [] d wide = (refl, omega arith, tt)
append_wider [] (v ∷ vs) d wide = absurd wide
append_wider (w ∷ ws) [] d wide = absurd wide
append_wider (w ∷ ws) (v ∷ vs) d wide = (wide.0, wide.1, append_wider ws vs d wide.2)

closed_grows : (covered : ℕ) (p : Entry) (n m : ℕ) → n ≤ m → is_closed covered p n ≡ true → is_closed covered p m ≡ true
closed_grows covered p n m le is = by (not (nat_eq (suc p.minute % 1440) 0)) (nat_lt covered (suc p.minute)) (nat_lt (suc p.minute) n) (nat_lt (suc p.minute) m) (lt_on (suc p.minute) n m le) is
  where
    lt_on : (k n m : ℕ) → n ≤ m → nat_lt k n ≡ true → nat_lt k m ≡ true
    lt_on k n m le is = grind (arith, nat_tests)

    by : (a b c d : Bool) → (c ≡ true → d ≡ true) → (a && (b && c)) ≡ true → (a && (b && d)) ≡ true
    by true true c d on is = on is
    by true false c d on is = is
    by false b c d on is = is

module _ (covered : ℕ) (days : List WordDay) (e : Entry) (h : Manual) (hs : List Manual) (are : AreOnDay (e.minute / 1440) e.minute (h ∷ hs)) where
  abbrev behind : Option Entry → Counted
  behind o = record { days = days; before = o }

  abbrev IsPiece : Option Entry → Type 0
  IsPiece o = Wider (with_entry covered (with_hands covered (behind o) (h ∷ hs)) e).days (and_by_hand (h ∷ hs) (with_entry covered (behind o) e).days)

  abbrev begun : ℕ → WordDay
  begun minute = record { day = minute / 1440; words = first_words minute }

  bare : IsPiece None
  bare = counted_wider covered (behind None) e h hs are refl refl

  module _ (p : Entry) (low : p.minute < h.minute) where
    apart : goes_on (Some p) e ≡ false
    apart = ap (λ (t : Bool). t && (same_slot p.slot e.slot && (same_activity p.act e.act && same_bool p.crew e.crew))) (other (suc p.minute) e.minute (omega (arith, low, are.1)))
      where
        other : (m n : ℕ) → m < n → nat_eq m n ≡ false
        other m n lt = grind (arith, nat_tests)

    -- the closing word counts before the entry alone
    less : is_closed covered p h.minute ≡ false → is_closed covered p e.minute ≡ true → IsPiece (Some p)
    less not_h then_e =
        subst (λ (c : Counted). Wider (with_entry covered (with_hands covered c hs) e).days (and_by_hand (h ∷ hs) (with_entry covered (behind (Some p)) e).days)) (sym first_is)
        (wider_chain (with_entry covered (with_hands covered (behind None) (h ∷ hs)) e).days (and_by_hand (h ∷ hs) (with_entry covered (behind None) e).days) (and_by_hand (h ∷ hs) (with_entry covered (behind (Some p)) e).days) bare
        (hands_wider (h ∷ hs) (with_entry covered (behind None) e).days (with_entry covered (behind (Some p)) e).days closed_more))
      where
        first_is : with_by_hand covered (behind (Some p)) h.minute ≡ with_by_hand covered (behind None) h.minute
        first_is = ap (λ (l : List WordDay). let c : Counted = record { days = cond (is_newest (h.minute / 1440) l) (more l) (l ++ begun h.minute ∷ []); before = None } in c) (ap (λ (t : Bool). cond t (more days) days) not_h)

        by : (t g : Bool) → g ≡ false → Wider (cond t (more days) (days ++ begun e.minute ∷ [])) (cond t (cond g (more days) (more (more days))) (more days ++ begun e.minute ∷ []))
        by true true is = absurd (cc)
        by true false is = wider_up (more days)
        by false g is = append_wider days (more days) (begun e.minute) (wider_up days)

        closed_more : Wider (with_entry covered (behind None) e).days (with_entry covered (behind (Some p)) e).days
        closed_more =
            subst (λ (l : List WordDay). Wider (adds None e days) (adds (Some p) e l)) (sym (ap (λ (t : Bool). cond t (more days) days) then_e))
            (subst (λ (t : Bool). Wider (adds None e days) (cond t (cond (goes_on (Some p) e) (more days) (more (more days))) (more days ++ begun e.minute ∷ []))) (sym (newest_more (e.minute / 1440) days))
            (by (is_newest (e.minute / 1440) days) (goes_on (Some p) e) apart))

    some : IsPiece (Some p)
    some = by (is_closed covered p h.minute) (is_closed covered p e.minute) refl refl
      where
        by : (a b : Bool) → is_closed covered p h.minute ≡ a → is_closed covered p e.minute ≡ b → IsPiece (Some p)
        by true true x y = counted_wider covered (behind (Some p)) e h hs are (ap (λ (t : Bool). cond t (more days) days) (x ∙ sym y)) apart
        by false false x y = counted_wider covered (behind (Some p)) e h hs are (ap (λ (t : Bool). cond t (more days) days) (x ∙ sym y)) apart
        by false true x y = less x y
        by true false x y = absurd (no (sym (closed_grows covered p h.minute e.minute (omega (arith, are.1)) x) ∙ y))
          where
            no : true ≡ false → ⊥
            no is = cc

  pub piece : (o : Option Entry) → IfSome o (λ p. p.minute < h.minute) → IsPiece o
  piece None low = bare
  piece (Some p) low = some p low

-- ---- all that was written

-- one entry by hand more
hands_snoc : (covered : ℕ) (c : Counted) (hs : List Manual) (g : Manual) → with_hands covered c (hs ++ g ∷ []) ≡ with_by_hand covered (with_hands covered c hs) g.minute
hands_snoc covered c [] g = refl
hands_snoc covered c (h ∷ hs) g = hands_snoc covered (with_by_hand covered c h.minute) hs g

-- they are of a day, and none is later than a minute
abbrev LieOn : (day last : ℕ) → List Manual → Type 0
LieOn day last [] = Unit {0}
LieOn day last (h ∷ hs) = (h.minute / 1440 ≡ day) × (h.minute ≤ last) × LieOn day last hs

lie_more : (day last : ℕ) (hs : List Manual) (g : Manual) → g.minute / 1440 ≡ day → last < g.minute → LieOn day last hs → LieOn day g.minute (hs ++ g ∷ [])
lie_more day last [] g at lt lie = (at, omega arith, tt)
lie_more day last (h ∷ hs) g at lt lie = (lie.0, omega (arith, lie.1, lt), lie_more day last hs g at lt lie.2)

lie_before : (day last before : ℕ) (hs : List Manual) → last < before → LieOn day last hs → AreOnDay day before hs
lie_before day last before [] lt lie = tt
lie_before day last before (h ∷ hs) lt lie = (lie.0, omega (arith, lie.1, lt), lie_before day last before hs lt lie.2)

-- entries by hand of which the keep is still to come, or none
abbrev Pending : List Manual → (last : ℕ) → Option Entry → List Written → Type 0
Pending [] last before ws = IfSome before (λ p. p.minute ≤ last)
Pending (h ∷ hs) last before ws = GoesOnIn (h.minute / 1440) ws × LieOn (h.minute / 1440) last (h ∷ hs) × IfSome before (λ p. p.minute < h.minute)

-- an entry by hand behind the last entry
behind_last : (last minute : ℕ) (o : Option Entry) → last < minute → IfSome o (λ p. p.minute ≤ last) → IfSome o (λ p. p.minute < minute)
behind_last last minute None lt low = tt
behind_last last minute (Some p) lt low = omega (arith, lt, low)

module _ (covered next : ℕ) where
  go : (ws : List Written) (before hs : List Manual) (base bare : Counted) (last : ℕ) → Rises last ws → Pending hs last base.before ws → base.before ≡ bare.before → Wider base.days (and_by_hand before bare.days)
      → Wider (expected_days covered next (counted_by covered (with_hands covered base hs) ws)) (and_by_hand (before ++ (hs ++ hands_of ws)) (expected_days covered next (counted covered bare (entries_of ws))))
  unfolding counted_by counted
  go [] before [] base bare last rises pending same wide =
      subst (λ (l : List Manual). Wider (closes covered base.before next base.days) (and_by_hand l (closes covered bare.before next bare.days))) (sym (append-nil before)) (expected_wider before covered next base bare same wide)
  go [] before (h ∷ hs) base bare last rises pending same wide = absurd pending.0
  go (Minute e ∷ ws) before [] base bare last rises pending same wide =
      go ws before [] (with_entry covered base e) (with_entry covered bare e) e.minute rises.1 (omega arith) refl (entry_wider before covered base bare e same wide)
  go (Minute e ∷ ws) before (h ∷ hs) base bare last rises pending same wide =
      subst (λ (l : List Manual). Wider (expected_days covered next (counted_by covered (with_entry covered (with_hands covered base (h ∷ hs)) e) ws)) (and_by_hand l (expected_days covered next (counted covered (with_entry covered bare e) (entries_of ws)))))
      (append_assoc before (h ∷ hs) (hands_of ws))
      (go ws (before ++ h ∷ hs) [] (with_entry covered (with_hands covered base (h ∷ hs)) e) (with_entry covered bare e) e.minute rises.1 (omega arith) refl
      (wider_chain (with_entry covered (with_hands covered base (h ∷ hs)) e).days (and_by_hand (h ∷ hs) (with_entry covered base e).days) (and_by_hand (before ++ h ∷ hs) (with_entry covered bare e).days)
      (piece covered base.days e h hs (subst (λ (day : ℕ). AreOnDay day e.minute (h ∷ hs)) (sym pending.0) (lie_before (h.minute / 1440) last e.minute (h ∷ hs) rises.0 pending.1)) base.before pending.2)
      (wider_chain (and_by_hand (h ∷ hs) (with_entry covered base e).days) (and_by_hand (h ∷ hs) (and_by_hand before (with_entry covered bare e).days)) (and_by_hand (before ++ h ∷ hs) (with_entry covered bare e).days)
      (hands_wider (h ∷ hs) (with_entry covered base e).days (and_by_hand before (with_entry covered bare e).days) (entry_wider before covered base bare e same wide)) (hands_twice before (h ∷ hs) (with_entry covered bare e).days))))
  go (ByHand g ∷ ws) before [] base bare last rises pending same wide =
      go ws before (g ∷ []) base bare g.minute rises.2 (rises.1, (refl, omega arith, tt), behind_last last g.minute base.before rises.0 pending) same wide
  go (ByHand g ∷ ws) before (h ∷ hs) base bare last rises pending same wide =
      subst (λ (c : Counted). Wider (expected_days covered next (counted_by covered c ws)) (and_by_hand (before ++ ((h ∷ hs) ++ g ∷ hands_of ws)) (expected_days covered next (counted covered bare (entries_of ws))))) (hands_snoc covered base (h ∷ hs) g)
      (subst (λ (l : List Manual). Wider (expected_days covered next (counted_by covered (with_hands covered base ((h ∷ hs) ++ g ∷ [])) ws)) (and_by_hand (before ++ l) (expected_days covered next (counted covered bare (entries_of ws))))) (append_assoc (h ∷ hs) (g ∷ []) (hands_of ws))
      (go ws before ((h ∷ hs) ++ g ∷ []) base bare g.minute rises.2
      (subst (λ (day : ℕ). GoesOnIn day ws) pending.0 rises.1, lie_more (h.minute / 1440) last (h ∷ hs) g pending.0 rises.0 pending.1, pending.2) same wide))

  -- AS THEY STAND AT FIRST both counts are one
  pub written_wider : (after : ℕ) (start : Counted) (ws : List Written) → Rises after ws → IfSome start.before (λ p. p.minute ≤ after)
      → Wider (expected_days covered next (counted_by covered start ws)) (and_by_hand (hands_of ws) (expected_days covered next (counted covered start (entries_of ws))))
  written_wider after start ws rises low = go ws [] [] start start after rises low refl (nothing_more start.days)
    where
      nothing_more : (ds : List WordDay) → Wider ds (and_by_hand [] ds)
      nothing_more [] = tt
      nothing_more (d ∷ ds) = (refl, omega arith, nothing_more ds)
