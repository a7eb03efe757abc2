-- Entries that rise, and those of them that an end mark counts.
use Rattle.std.proofs.Common.{◌≡◌, ◌⊎◌, inl, inr, ⊎_elim, ℕ, ◌<◌, ◌≤◌, Bool, true, false, cond, List, [], ◌∷◌, ◌++◌, All, Contains, refl, ap, subst, ◌∙◌, sym, arith, nat_le}
use Rattle.std.proofs.lemmas.Bool.Decides.{nat_tests}
use Rattle.std.proofs.lemmas.List.{append-nil}
use Rattle.std.proofs.lemmas.List.Elements.{All-cons, All-nil, All-weaker, All-contains_itself, filter-append, Contains-append_left, Contains-append_right, Contains-append_cases, Contains-push_cases}
use Rattle.run_course.specs.activity_codec.declared.entries.Entry.{Entry}
use Rattle.run_course.specs.activity_codec.declared.entries.Manual.{Manual}
use Rattle.run_course.proofs.history_model.Filters.{filter-none, filter-whole}
use Rattle.unit_rule.specs.card_retention.Retains.{Rise}
use Rattle.unit_rule.specs.device_rule.View.{Held}
use Rattle.unit_rule.specs.device_rule.Own.{KeepsFrom}
use Rattle.run_promise.specs.Cards.{counted_to}

within : (k m : ℕ) → m ≤ k → nat_le m k ≡ true
within k m h = grind (arith, nat_tests)

beyond_it : (k m : ℕ) → k < m → nat_le m k ≡ false
beyond_it k m h = grind (arith, nat_tests)

either : (k m : ℕ) → (m ≤ k) ⊎ (k < m)
either k m = go (nat_le m k) refl
  where
    go : (b : Bool) → nat_le m k ≡ b → (m ≤ k) ⊎ (k < m)
    go true is = inl (grind (arith, nat_tests))
    go false is = inr (grind (arith, nat_tests))

-- a fact of each member
pub all-by : {X : Type 0} (P : X → Type 0) (xs : List X) → ((x : X) → Contains xs x → P x) → All P xs
all-by P xs each = All-weaker (Contains xs) P each xs (All-contains_itself xs)

pub rise-tail : (e : Entry) (es : List Entry) → Rise (e ∷ es) → Rise es
rise-tail e [] rise = tt
rise-tail e (f ∷ es) rise = rise.1

-- all behind the first are later
pub rise-above : (e : Entry) (es : List Entry) → Rise (e ∷ es) → All (λ d. e.minute < d.minute) es
rise-above e [] rise = All-nil (λ (d : Entry). e.minute < d.minute)
rise-above e (f ∷ es) rise = All-cons (λ (d : Entry). e.minute < d.minute) f es rise.0
    (All-weaker (λ (d : Entry). f.minute < d.minute) (λ d. e.minute < d.minute) (λ d h. omega (arith, h, rise.0)) es (rise-above f es rise.1))

pub rise-front : (xs ys : List Entry) → Rise (xs ++ ys) → Rise xs
rise-front [] ys rise = tt
rise-front (x ∷ []) ys rise = tt
rise-front (x ∷ z ∷ xs) ys rise = (rise.0, rise-front (z ∷ xs) ys rise.1)

pub counted-front : (k : ℕ) (more rest : List Entry) → All (λ e. e.minute ≤ k) more → All (λ e. k < e.minute) rest → counted_to k (more ++ rest) ≡ more
counted-front k more rest low high =
    filter-append (λ (e : Entry). nat_le e.minute k) more rest
    ∙ ap (λ (zs : List Entry). zs ++ counted_to k rest) (filter-whole (λ (e : Entry). nat_le e.minute k) more (All-weaker (λ (e : Entry). e.minute ≤ k) (λ e. nat_le e.minute k ≡ true) (λ e h. within k e.minute h) more low))
    ∙ ap (λ (zs : List Entry). more ++ zs) (filter-none (λ (e : Entry). nat_le e.minute k) rest (All-weaker (λ (e : Entry). k < e.minute) (λ e. nat_le e.minute k ≡ false) (λ e h. beyond_it k e.minute h) rest high))
    ∙ append-nil more

-- of entries that rise an end mark counts a front
pub counted-split : (k : ℕ) (es : List Entry) → Rise es → (rest : List Entry) × (es ≡ counted_to k es ++ rest) × All (λ e. k < e.minute) rest
counted-split k [] rise = ([], refl, All-nil (λ (e : Entry). k < e.minute))
counted-split k (e ∷ es) rise = ⊎_elim
    (λ low. let more = counted-split k es (rise-tail e es rise) in
    (more.0, ap (λ (zs : List Entry). e ∷ zs) more.1 ∙ ap (λ (b : Bool). cond b (e ∷ counted_to k es) (counted_to k es) ++ more.0) (sym (within k e.minute low)), more.2))
    (λ high.
    let each : All (λ d. k < d.minute) (e ∷ es) = All-cons (λ (d : Entry). k < d.minute) e es high (All-weaker (λ (d : Entry). e.minute < d.minute) (λ d. k < d.minute) (λ d h. omega (arith, h, high)) es (rise-above e es rise)) in
    (e ∷ es, ap (λ (zs : List Entry). zs ++ e ∷ es) (sym (counted-front k [] (e ∷ es) (All-nil (λ (d : Entry). d.minute ≤ k)) each)), each))
    (either k e.minute)

-- an entry that is not later is counted
pub contains-counted : (k : ℕ) (es : List Entry) (e : Entry) → e.minute ≤ k → Contains es e → Contains (counted_to k es) e
contains-counted k [] e le at = absurd (omega (arith, at.1))
contains-counted k (d ∷ es) e le at = ⊎_elim
    (λ first. ⊎_elim (λ none. absurd (omega (arith, none.1))) (λ is. here is (nat_le d.minute k) refl) (Contains-push_cases [] d e first))
    (λ rest. there (nat_le d.minute k) (contains-counted k es e le rest))
    (Contains-append_cases (d ∷ []) es e at)
  where
    there : (b : Bool) → Contains (counted_to k es) e → Contains (cond b (d ∷ counted_to k es) (counted_to k es)) e
    there true rest = Contains-append_right (d ∷ []) (counted_to k es) e rest
    there false rest = rest

    here : d ≡ e → (b : Bool) → nat_le d.minute k ≡ b → Contains (cond b (d ∷ counted_to k es) (counted_to k es)) e
    here is true t = Contains-append_left (d ∷ []) (counted_to k es) e (0, omega arith, is)
    here is false t = absurd (let le' : d.minute ≤ k = subst (λ (x : Entry). x.minute ≤ k) (sym is) le in let passes = within k d.minute le' in grind (arith, passes, t))

-- a string that goes on from a minute goes on from a later one
pub keeps-later : (image : List ℕ) (given : List Manual) (a b : ℕ) (all : List Entry) (held : Held) → a ≤ b → KeepsFrom image given a all held → KeepsFrom image given b all held
keeps-later image given a b all held le k = record { more = k.more; begins = k.begins; keeps = λ n h. k.keeps n (omega (arith, h, le)) }
