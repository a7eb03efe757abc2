-- Runs of equal seconds, counted as they come, and the longest of them.
use Rattle.std.proofs.Common.{◌≡◌, ◌∙◌, ℕ, suc, zero, ◌+◌, ◌<◌, ◌≤◌, true, false, cond, List, [], ◌∷◌, ◌++◌, replicate, refl, ap, sym, arith}
use Rattle.std.specs.Prelude.{nat_lt, ◌==◌}
use Rattle.std.proofs.lemmas.Bool.{eqb-true, eqb-false, lt-ltb, le-ltb, ltb-true, ltb-false, ne_eqb}
use Rattle.activity_codec.proofs.ByTest.{by_test}
use Rattle.activity_codec.specs.Activity.{same_activity}
use Rattle.activity_codec.specs.declared.values.Activity.{Activity}
use Rattle.activity_codec.specs.declared.values.Activity.TheVariants.{Rest, Available, Work, Driving}
use Rattle.minute_model.specs.Minute.{Run, extend_run, runs_of, longest_run, longest}
use Rattle.minute_rules.specs.declared.tally.Tally.{Tally}
use Rattle.minute_rules.specs.Tally.{no_run, with_run, longest_in, tally_from, tally_of}

pub same_activity-self : (a : Activity) → same_activity a a ≡ true
same_activity-self Rest = refl
same_activity-self Available = refl
same_activity-self Work = refl
same_activity-self Driving = refl

pub same_activity-true : (a b : Activity) → same_activity a b ≡ true → a ≡ b
same_activity-true Rest Rest h = refl
same_activity-true Available Available h = refl
same_activity-true Work Work h = refl
same_activity-true Driving Driving h = refl
same_activity-true Rest Available h = cc
same_activity-true Rest Work h = cc
same_activity-true Rest Driving h = cc
same_activity-true Available Rest h = cc
same_activity-true Available Work h = cc
same_activity-true Available Driving h = cc
same_activity-true Work Rest h = cc
same_activity-true Work Available h = cc
same_activity-true Work Driving h = cc
same_activity-true Driving Rest h = cc
same_activity-true Driving Available h = cc
same_activity-true Driving Work h = cc

-- more of the activity that goes on
going-more : (best : Activity) (b : ℕ) (a : Activity) (g k : ℕ) → with_run (record { best = best; best_seconds = b; going = a; going_seconds = g }) a k ≡ record { best = best; best_seconds = b; going = a; going_seconds = g + k }
going-more best b a g k =
    by_test (k == 0)
    (λ none. let z : k ≡ 0 = eqb-true k 0 none in let e : g ≡ g + k = omega (arith, z) in rw none (ap (λ (n : ℕ). record { best = best; best_seconds = b; going = a; going_seconds = n }) e))
    (λ some. rw (some, same_activity-self a) refl)

-- so many seconds of one activity, and so many more
pub with_run-more : (t : Tally) (a : Activity) (n k : ℕ) → with_run (with_run t a n) a k ≡ with_run t a (n + k)
with_run-more t a n k =
    by_test (n == 0)
    (λ none. let e : k ≡ n + k = omega (arith, eqb-true n 0 none) in rw none (ap (with_run t a) e))
    (λ some.
    let more : (n + k == 0) ≡ false = ne_eqb (n + k) 0 (λ z. eqb-false n 0 some (omega (arith, z))) in
    by_test (same_activity a t.going)
    (λ same.
    let is : a ≡ t.going = same_activity-true a t.going same in
    let e : t.going_seconds + n + k ≡ t.going_seconds + (n + k) = omega arith in
    rw (some, more, same) (ap (λ (b : Activity). with_run (record { best = t.best; best_seconds = t.best_seconds; going = t.going; going_seconds = t.going_seconds + n }) b k) is ∙ going-more t.best t.best_seconds t.going (t.going_seconds + n) k ∙ ap (λ (m : ℕ). record { best = t.best; best_seconds = t.best_seconds; going = t.going; going_seconds = m }) e))
    (λ other. by_test (nat_lt t.going_seconds t.best_seconds)
    (λ shorter. rw (some, more, other, shorter) (going-more t.best t.best_seconds a n k))
    (λ longer. rw (some, more, other, longer) (going-more t.going t.going_seconds a n k))))

pub tally-append : (t : Tally) (xs ys : List Activity) → tally_from t (xs ++ ys) ≡ tally_from (tally_from t xs) ys
tally-append t [] ys = refl
tally-append t (x ∷ xs) ys = tally-append (with_run t x 1) xs ys

pub tally-replicate : (t : Tally) (a : Activity) (n : ℕ) → tally_from t (replicate n a) ≡ with_run t a n
tally-replicate t a zero = refl
tally-replicate t a (suc n) = let e : 1 + n ≡ suc n = omega arith in tally-replicate (with_run t a 1) a n ∙ with_run-more t a 1 n ∙ ap (with_run t a) e

-- a run before some runs, joined with an equal first one
abbrev joined : Activity → ℕ → List Run → List Run
joined act n [] = record { act = act; len = n } ∷ []
joined act n (run ∷ runs) =
    cond (same_activity act run.act) (record { act = run.act; len = run.len + n } ∷ runs) (record { act = act; len = n } ∷ run ∷ runs)

joined-one : (act : Activity) (runs : List Run) → joined act 1 runs ≡ extend_run act runs
joined-one act [] = refl
joined-one act (run ∷ runs) = refl

-- one more second of a run that goes on
joined-more : (act b : Activity) (n : ℕ) (runs : List Run) → same_activity b act ≡ true → joined act (n + 1) runs ≡ joined act n (extend_run b runs)
joined-more act b n [] same =
    let is : b ≡ act = same_activity-true b act same in
    let back : same_activity act b ≡ true = rw (is) (same_activity-self act) in
    let e : n + 1 ≡ 1 + n = omega arith in
    rw back (ap (λ (k : ℕ). record { act = act; len = k } ∷ []) e ∙ ap (λ (a : Activity). record { act = a; len = 1 + n } ∷ []) (sym is))
joined-more act b n (run ∷ runs) same =
    let is : b ≡ act = same_activity-true b act same in
    by_test (same_activity act run.act)
    (λ equal.
    let e : run.len + (n + 1) ≡ run.len + 1 + n = omega arith in
    let also : same_activity b run.act ≡ true = rw is equal in
    rw (equal, also, equal) (ap (λ (k : ℕ). record { act = run.act; len = k } ∷ runs) e))
    (λ other.
    let e : n + 1 ≡ 1 + n = omega arith in
    let also : same_activity b run.act ≡ false = rw is other in
    let back : same_activity act b ≡ true = rw is (same_activity-self act) in
    rw (other, also, back) (ap (λ (k : ℕ). record { act = act; len = k } ∷ run ∷ runs) e ∙ ap (λ (a : Activity). record { act = a; len = 1 + n } ∷ run ∷ runs) (sym is)))

differ : (act b : Activity) → same_activity b act ≡ false → same_activity act b ≡ false
differ act b other = by_test (same_activity act b) (λ yes. let e : act ≡ b = same_activity-true act b yes in let bad : same_activity b act ≡ true = rw e (same_activity-self b) in cc) (λ no. no)

-- a second of another activity
joined-other : (act b : Activity) (n : ℕ) (runs : List Run) → same_activity b act ≡ false → joined act n (extend_run b runs) ≡ record { act = act; len = n } ∷ extend_run b runs
joined-other act b n [] other = let back = differ act b other in rw back refl
joined-other act b n (run ∷ runs) other =
    let back = differ act b other in
    by_test (same_activity b run.act)
    (λ equal. let is : b ≡ run.act = same_activity-true b run.act equal in let also : same_activity act run.act ≡ false = rw (← is) back in rw (equal, also) refl)
    (λ no. rw (no, back) refl)

-- the later of two runs that are equally long, else the longer
abbrev better : Run → Run → Run
better first then = cond (nat_lt then.len first.len) first then

abbrev run_in : Tally → Run
run_in t = better (record { act = t.best; len = t.best_seconds }) (record { act = t.going; len = t.going_seconds })

better-assoc : (a b c : Run) → better (better a b) c ≡ better a (better b c)
better-assoc a b c =
    by_test (nat_lt b.len a.len)
    (λ ab. let ba : b.len < a.len = ltb-true b.len a.len ab in
    by_test (nat_lt c.len b.len)
    (λ bc. let cb : c.len < b.len = ltb-true c.len b.len bc in let ca : c.len < a.len = omega (arith, ba, cb) in rw (ab, bc, ab, lt-ltb c.len a.len ca) refl)
    (λ no. rw (ab, no) refl))
    (λ ab. let le : a.len ≤ b.len = ltb-false b.len a.len ab in
    by_test (nat_lt c.len b.len)
    (λ bc. rw (ab, bc, ab) refl)
    (λ no. let cb : b.len ≤ c.len = ltb-false c.len b.len no in let ca : a.len ≤ c.len = omega (arith, le, cb) in rw (ab, no, le-ltb c.len a.len ca) refl))

-- one more second
one-same : (t : Tally) (b : Activity) → same_activity b t.going ≡ true → with_run t b 1 ≡ record { best = t.best; best_seconds = t.best_seconds; going = t.going; going_seconds = t.going_seconds + 1 }
one-same t b same = rw same refl

one-shorter : (t : Tally) (b : Activity) → same_activity b t.going ≡ false → nat_lt t.going_seconds t.best_seconds ≡ true → with_run t b 1 ≡ record { best = t.best; best_seconds = t.best_seconds; going = b; going_seconds = 1 }
one-shorter t b other shorter = rw (other, shorter) refl

one-longer : (t : Tally) (b : Activity) → same_activity b t.going ≡ false → nat_lt t.going_seconds t.best_seconds ≡ false → with_run t b 1 ≡ record { best = t.going; best_seconds = t.going_seconds; going = b; going_seconds = 1 }
one-longer t b other longer = rw (other, longer) refl

-- the run that some seconds lead to, from a tally on
tally-run : (t : Tally) (acts : List Activity) → 0 < t.going_seconds → run_in (tally_from t acts) ≡ better (record { act = t.best; len = t.best_seconds }) (longest_run (joined t.going t.going_seconds (runs_of acts)))
tally-run t [] some = rw (lt-ltb 0 t.going_seconds some) refl
tally-run t (b ∷ acts) some =
    by_test (same_activity b t.going)
    (λ same. ap (λ (u : Tally). run_in (tally_from u acts)) (one-same t b same) ∙ (tally-run (record { best = t.best; best_seconds = t.best_seconds; going = t.going; going_seconds = t.going_seconds + 1 }) acts (omega (arith, some)) ∙ ap (λ (rs : List Run). better (record { act = t.best; len = t.best_seconds }) (longest_run rs)) (joined-more t.going b t.going_seconds (runs_of acts) same)))
    (λ other.
    let best : Run = record { act = t.best; len = t.best_seconds } in
    let going : Run = record { act = t.going; len = t.going_seconds } in
    let rest : List Run = extend_run b (runs_of acts) in
    let last : better best (longest_run (joined t.going t.going_seconds rest)) ≡ better best (better going (longest_run rest)) = ap (λ (rs : List Run). better best (longest_run rs)) (joined-other t.going b t.going_seconds (runs_of acts) other) in
    by_test (nat_lt t.going_seconds t.best_seconds)
    (λ shorter. ap (λ (u : Tally). run_in (tally_from u acts)) (one-shorter t b other shorter) ∙ (tally-run (record { best = t.best; best_seconds = t.best_seconds; going = b; going_seconds = 1 }) acts (omega arith) ∙ ap (λ (rs : List Run). better best (longest_run rs)) (joined-one b (runs_of acts))
    ∙ ap (λ (r : Run). better r (longest_run rest)) (sym (shorter_is best going shorter)) ∙ better-assoc best going (longest_run rest) ∙ sym last))
    (λ longer. ap (λ (u : Tally). run_in (tally_from u acts)) (one-longer t b other longer) ∙ (tally-run (record { best = t.going; best_seconds = t.going_seconds; going = b; going_seconds = 1 }) acts (omega arith) ∙ ap (λ (rs : List Run). better going (longest_run rs)) (joined-one b (runs_of acts))
    ∙ ap (λ (r : Run). better r (longest_run rest)) (sym (longer_is best going longer)) ∙ better-assoc best going (longest_run rest) ∙ sym last)))
  where
    shorter_is : (best going : Run) → nat_lt going.len best.len ≡ true → better best going ≡ best
    shorter_is best going h = rw h refl

    longer_is : (best going : Run) → nat_lt going.len best.len ≡ false → better best going ≡ going
    longer_is best going h = rw h refl

-- the longest activity is that of the tally
pub longest-tally : (acts : List Activity) → longest acts ≡ longest_in (tally_of acts)
longest-tally [] = refl
longest-tally (a ∷ acts) =
    let one : Tally = record { best = Rest; best_seconds = 0; going = a; going_seconds = 1 } in
    let first : with_run no_run a 1 ≡ one = started a in
    let run : run_in (tally_from one acts) ≡ better (record { act = Rest; len = 0 }) (longest_run (joined a 1 (runs_of acts))) = tally-run one acts (omega arith) in
    let whole : better (record { act = Rest; len = 0 }) (longest_run (joined a 1 (runs_of acts))) ≡ longest_run (extend_run a (runs_of acts)) = rw (le-ltb (longest_run (joined a 1 (runs_of acts))).len 0 (omega arith)) (ap longest_run (joined-one a (runs_of acts))) in
    sym (ap (λ (t : Tally). longest_in (tally_from t acts)) first ∙ act_of (tally_from one acts) ∙ ap (λ (r : Run). r.act) (run ∙ whole))
  where
    started : (a : Activity) → with_run no_run a 1 ≡ record { best = Rest; best_seconds = 0; going = a; going_seconds = 1 }
    started Rest = refl
    started Available = refl
    started Work = refl
    started Driving = refl

    act_of : (t : Tally) → longest_in t ≡ (run_in t).act
    act_of t = by_test (nat_lt t.going_seconds t.best_seconds) (λ yes. rw yes refl) (λ no. rw no refl)
