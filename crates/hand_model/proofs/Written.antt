-- Lists of what sessions have written, one after the other.
use Rattle.std.proofs.Common.{◌≡◌, inl, inr, ⊎_elim, ℕ, ◌/◌, ◌≤◌, Bool, true, false, cond, List, [], ◌∷◌, ◌++◌, refl, sym, ◌∙◌, ap, subst, arith}
use Rattle.std.proofs.lemmas.List.{append-nil}
use Rattle.activity_codec.specs.declared.entries.Entry.{Entry}
use Rattle.activity_codec.specs.declared.entries.Manual.{Manual}
use Rattle.card_image.specs.card_retention.Expected.{WordDay, Counted}
use Rattle.card_image.specs.card_retention.Retains.{is_day}
use Rattle.card_image.specs.card_retention.ByHand.{hands_in}
use Rattle.hand_model.specs.Holding.{LieBetween, AreOfDay}
use Rattle.hand_model.specs.Written.{Written, Written.Minute, Written.ByHand, IsPartOf, Hands, Lie, Rises, GoesOnIn, IsUpTo, entries_of, hands_of, written_by, minutes_alone, with_written, counted_by, and_sure, and_given}

-- ---- the entries and the entries by hand among them

pub entries_append : (ws vs : List Written) → entries_of (ws ++ vs) ≡ entries_of ws ++ entries_of vs
entries_append [] vs = refl
entries_append (Minute e ∷ ws) vs = ap (λ (l : List Entry). e ∷ l) (entries_append ws vs)
entries_append (ByHand h ∷ ws) vs = entries_append ws vs

pub hands_append : (ws vs : List Written) → hands_of (ws ++ vs) ≡ hands_of ws ++ hands_of vs
hands_append [] vs = refl
hands_append (Minute e ∷ ws) vs = hands_append ws vs
hands_append (ByHand h ∷ ws) vs = ap (λ (l : List Manual). h ∷ l) (hands_append ws vs)

pub entries_by : (hs : List Manual) (e : Entry) → entries_of (written_by hs e) ≡ e ∷ []
entries_by [] e = refl
entries_by (h ∷ hs) e = entries_by hs e

pub hands_by : (hs : List Manual) (e : Entry) → hands_of (written_by hs e) ≡ hs
hands_by [] e = refl
hands_by (h ∷ hs) e = ap (λ (l : List Manual). h ∷ l) (hands_by hs e)

pub entries_alone : (es : List Entry) → entries_of (minutes_alone es) ≡ es
entries_alone [] = refl
entries_alone (e ∷ es) = ap (λ (l : List Entry). e ∷ l) (entries_alone es)

pub hands_alone : (es : List Entry) → hands_of (minutes_alone es) ≡ []
hands_alone [] = refl
hands_alone (e ∷ es) = hands_alone es

pub entries_then : (ws : List Written) (hs : List Manual) (e : Entry) → entries_of (ws ++ written_by hs e) ≡ entries_of ws ++ e ∷ []
entries_then ws hs e = entries_append ws (written_by hs e) ∙ ap (λ (l : List Entry). entries_of ws ++ l) (entries_by hs e)

pub hands_then : (ws : List Written) (hs : List Manual) (e : Entry) → hands_of (ws ++ written_by hs e) ≡ hands_of ws ++ hs
hands_then ws hs e = hands_append ws (written_by hs e) ∙ ap (λ (l : List Manual). hands_of ws ++ l) (hands_by hs e)

-- entries of minutes behind them leave those by hand
pub alone_hands : (ws : List Written) (es : List Entry) → hands_of ws ≡ hands_of (ws ++ minutes_alone es)
alone_hands ws es = sym (hands_append ws (minutes_alone es) ∙ ap (λ (l : List Manual). hands_of ws ++ l) (hands_alone es) ∙ append-nil (hands_of ws))

-- ---- the count

pub counted_append : (covered : ℕ) (c : Counted) (ws vs : List Written) → counted_by covered c (ws ++ vs) ≡ counted_by covered (counted_by covered c ws) vs
unfolding counted_by
counted_append covered c [] vs = refl
counted_append covered c (w ∷ ws) vs = counted_append covered (with_written covered c w) ws vs

-- ---- some of a list

pub part_self : (l : List Manual) → IsPartOf l l
part_self [] = tt
part_self (x ∷ l) = inl (refl, part_self l)

-- of what comes behind others
pub part_after : (all few many : List Manual) → IsPartOf few many → IsPartOf few (all ++ many)
part_after [] few many q = q
part_after (y ∷ all) [] many q = tt
part_after (y ∷ all) (f ∷ few) many q = inr (part_after all (f ∷ few) many q)

pub part_both : (some all few many : List Manual) → IsPartOf some all → IsPartOf few many → IsPartOf (some ++ few) (all ++ many)
part_both [] all few many p q = part_after all few many q
part_both (x ∷ some) [] few many p q = absurd p
part_both (x ∷ some) (y ∷ all) few many p q = ⊎_elim (λ is. inl (is.0, part_both some all few many is.1 q)) (λ on. inr (part_both (x ∷ some) all few many on q)) p

pub part_wider : (some all others : List Manual) → IsPartOf some all → IsPartOf some (all ++ others)
part_wider some all others p = subst (λ (l : List Manual). IsPartOf l (all ++ others)) (append-nil some) (part_both some all [] others p tt)

pub part_before : (a b c : List Manual) → IsPartOf (a ++ b) c → IsPartOf a c
part_before [] b c p = tt
part_before (x ∷ a) b [] p = absurd p
part_before (x ∷ a) b (y ∷ c) p = ⊎_elim (λ is. inl (is.0, part_before a b c is.1)) (λ on. inr (part_before (x ∷ a) b c on)) p

pub part_then : (a b c : List Manual) → IsPartOf a b → IsPartOf b c → IsPartOf a c
part_then [] b c p q = tt
part_then (x ∷ a) [] c p q = absurd p
part_then (x ∷ a) (y ∷ b) [] p q = absurd q
part_then (x ∷ a) (y ∷ b) (z ∷ c) p q = ⊎_elim
    (λ same. ⊎_elim (λ is. inl (is.0 ∙ same.0, part_then a b c is.1 same.1)) (λ on. inr (part_then (x ∷ a) b c on same.1)) p)
    (λ on. inr (part_then (x ∷ a) (y ∷ b) c p on)) q

-- those whose day is there are some of all
pub part_in : (days : List WordDay) (l : List Manual) → IsPartOf (hands_in days l) l
part_in days [] = tt
part_in days (e ∷ es) = by (is_day (e.minute / 1440) days) (hands_in days es) (part_in days es)
  where
    by : (b : Bool) (kept : List Manual) → IsPartOf kept es → IsPartOf (cond b (e ∷ kept) kept) (e ∷ es)
    by true kept rest = inl (refl, rest)
    by false [] rest = tt
    by false (k ∷ kept) rest = inr rest

-- ---- what was acknowledged, written and given

pub lie_sure : (h : Hands) (written hs : List Manual) → Lie h written → Lie (and_sure hs h) (written ++ hs)
lie_sure h written hs l = record { all = part_both h.sure written hs hs l.all (part_self hs); only = part_both written h.given hs hs l.only (part_self hs) }

pub lie_given : (h : Hands) (written hs : List Manual) → Lie h written → Lie (and_given hs h) written
lie_given h written hs l = record { all = l.all; only = part_wider written h.given hs l.only }

-- a keep that was acknowledged is one that was given
pub lie_less : (h : Hands) (written hs : List Manual) → Lie (and_sure hs h) written → Lie (and_given hs h) written
lie_less h written hs l = record { all = part_before h.sure hs written l.all; only = l.only }

-- ---- their order

pub rises_low : (a b : ℕ) (ws : List Written) → b ≤ a → Rises a ws → Rises b ws
rises_low a b [] le h = tt
rises_low a b (Minute e ∷ ws) le h = (omega (arith, le, h.0), h.1)
rises_low a b (ByHand e ∷ ws) le h = (omega (arith, le, h.0), h.1, h.2)

-- a keep with its entries by hand, which are of its day and lie behind a minute
pub rises_by : (after : ℕ) (hs : List Manual) (e : Entry) → LieBetween after e.minute hs → AreOfDay (e.minute / 1440) hs → Rises after (written_by hs e)
rises_by after [] e lie day = (lie, tt)
rises_by after (h ∷ hs) e lie day = (lie.0, goes_by hs day.1, rises_by h.minute hs e lie.1 day.1)
  where
    goes_by : (gs : List Manual) → AreOfDay (e.minute / 1440) gs → GoesOnIn (h.minute / 1440) (written_by gs e)
    goes_by [] of_day = sym day.0
    goes_by (g ∷ gs) of_day = of_day.0 ∙ sym day.0

-- behind others that are not later
pub rises_then : (after last : ℕ) (ws vs : List Written) → after ≤ last → IsUpTo last ws → Rises after ws → Rises last vs → Rises after (ws ++ vs)
rises_then after last [] vs le up h next = rises_low last after vs le next
rises_then after last (Minute e ∷ ws) vs le up h next = (h.0, rises_then e.minute last ws vs up.0 up.1 h.1 next)
rises_then after last (ByHand g ∷ ws) vs le up h next = (h.0, goes_then ws h.1, rises_then g.minute last ws vs up.0 up.1 h.2 next)
  where
    goes_then : (us : List Written) → GoesOnIn (g.minute / 1440) us → GoesOnIn (g.minute / 1440) (us ++ vs)
    goes_then [] on = absurd on
    goes_then (Minute e ∷ us) on = on
    goes_then (ByHand f ∷ us) on = on
