use Rattle.std.proofs.Common.{◌≡◌, ◌∙◌, ℕ, suc, ◌+◌, ◌*◌, ◌++◌, List, ap, sym, arith}
use Rattle.minute_model.specs.declared.Minute.{Minute}
use Rattle.minute_model.specs.Span.{fed_many, decided_in}
use Rattle.minute_rules.specs.Alike.{later, repeated}
use Rattle.minute_rules.specs.Kept.{Kept, decided_now, minute_ended, run}
use Rattle.minute_rules.proofs.GoingOn.{goes_on, later-more, many-stands, many-given, decided-late, given-once, run-next}
use Rattle.minute_rules.proofs.Giving.{fed-stands, fed-given}
use Rattle.minute_rules.proofs.minutes.Minutes.feed_alike.Goals as goal

pub later-after-requires : goal.later-after-requires
later-after-requires g c =
    let next = ap (λ (j : Kept). j.next) (c.if-is_as.ensures.0 ∙ c.later-then.ensures) in
    omega (arith, next, c.requires.fits)

-- they go on alike
pub returns-then-is_as-clause-fed : goal.returns-then-is_as-clause-fed
returns-then-is_as-clause-fed g c = λ span h.
    let k : Kept = c.args.self.now in
    let v : ℕ = c.args.speed in
    let same : c.end_minute-decided.new.self ≡ later 1 v k = c.if-is_as.ensures.0 ∙ c.later-then.ensures in
    let goes = goes_on v k c.end_minute-decided.new.self c.requires.whole (c.end_minute-decided.ensures.kept ∙ ap minute_ended c.run.ensures.kept) same c.if-is_as.ensures.1 in
    let new : c.later-after.result ≡ later (suc c.args.more) v k = c.later-after.ensures ∙ ap (later c.args.more v) same ∙ later-more c.args.more v k in
    let many : 60 + 60 * c.args.more ≡ 60 * suc c.args.more = omega arith in
    rw (new, many) (many-stands span (suc c.args.more) v k goes h)

pub returns-then-is_as-clause-given : goal.returns-then-is_as-clause-given
returns-then-is_as-clause-given g c = λ span h.
    let k : Kept = c.args.self.now in
    let v : ℕ = c.args.speed in
    let same : c.end_minute-decided.new.self ≡ later 1 v k = c.if-is_as.ensures.0 ∙ c.later-then.ensures in
    let goes = goes_on v k c.end_minute-decided.new.self c.requires.whole (c.end_minute-decided.ensures.kept ∙ ap minute_ended c.run.ensures.kept) same c.if-is_as.ensures.1 in
    let many : 60 + 60 * c.args.more ≡ 60 * suc c.args.more = omega arith in
    let times : suc c.args.more ≡ 1 + c.args.more = omega arith in
    ap (λ (n : ℕ). decided_in (fed_many span v n)) many
    ∙ many-given span (suc c.args.more) v k goes h
    ∙ ap (λ (n : ℕ). decided_in span ++ repeated v n (decided_now (run 60 v k))) times
    ∙ ap (λ (ms : List Minute). decided_in span ++ repeated v (1 + c.args.more) ms) (sym (c.end_minute-decided.ensures.given ∙ ap decided_now c.run.ensures.kept))

pub returns-then-is_as-clause-next : goal.returns-then-is_as-clause-next
returns-then-is_as-clause-next g c =
    let same : c.end_minute-decided.new.self ≡ later 1 c.args.speed c.args.self.now = c.if-is_as.ensures.0 ∙ c.later-then.ensures in
    let new = c.later-after.ensures ∙ ap (later c.args.more c.args.speed) same ∙ later-more c.args.more c.args.speed c.args.self.now in
    ap (λ (j : Kept). j.next) new ∙ (let e : c.args.self.now.next + 60 * suc c.args.more ≡ c.args.self.now.next + (60 + 60 * c.args.more) = omega arith in e)

pub returns-then-is_as-clause-late : goal.returns-then-is_as-clause-late
returns-then-is_as-clause-late g c =
    let k : Kept = run 60 c.args.speed c.args.self.now in
    let next = run-next 60 c.args.speed c.args.self.now in
    rw (c.end_minute-decided.ensures.given, c.run.ensures.kept) (decided-late k (1 + c.args.more) (omega (arith, next, c.requires.fits)))

-- that minute alone
pub returns-clause-fed : goal.returns-clause-fed
returns-clause-fed g c = λ span h. rw (c.end_minute-decided.ensures.kept, c.run.ensures.kept) (fed-stands span c.args.self.now c.args.speed 60 h (omega (arith, c.requires.whole)) (omega arith))

pub returns-clause-given : goal.returns-clause-given
returns-clause-given g c = λ span h.
    fed-given span c.args.self.now c.args.speed 60 h (omega (arith, c.requires.whole)) (omega arith)
    ∙ ap (λ (ms : List Minute). decided_in span ++ ms) (sym (given-once c.args.speed c.end_minute-decided.result.items ∙ c.end_minute-decided.ensures.given ∙ ap decided_now c.run.ensures.kept))

pub returns-clause-late : goal.returns-clause-late
returns-clause-late g c =
    let k : Kept = run 60 c.args.speed c.args.self.now in
    let next = run-next 60 c.args.speed c.args.self.now in
    rw (c.end_minute-decided.ensures.given, c.run.ensures.kept) (decided-late k 1 (omega (arith, next, c.requires.fits)))
