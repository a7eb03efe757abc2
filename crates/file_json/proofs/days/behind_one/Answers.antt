use Rattle.std.proofs.Common.{◌≡◌, ◌∙◌, ◌+◌, ℕ, List, drop, length, length-drop, ap, refl, arith}
use Rattle.file_json.specs.Days.{day_len}
use Rattle.file_json.proofs.Stringing.{day_there, days_behind}
use Rattle.file_json.proofs.days.behind_one.Goals as goal

pub day_len-len-requires : goal.day_len-len-requires
day_len-len-requires c =
    let there = day_there c.args.at c.args.circle.now c.requires.there in
    omega (arith, there.1, there.2, ap (λ (l : List ℕ). length l) c.split_at.ensures.back)

pub overflow_add-place : goal.overflow_add-place
overflow_add-place c =
    let there = day_there c.args.at c.args.circle.now c.requires.there in
    let len : c.day_len-len.result ≡ day_len (drop c.args.at.place c.args.circle.now) = c.day_len-len.ensures ∙ ap (λ (l : List ℕ). day_len l) c.split_at.ensures.back in
    omega (arith, there.2, len, length-drop c.args.at.place c.args.circle.now, c.requires.within)

pub left_after-most-requires : goal.left_after-most-requires
left_after-most-requires c = omega (arith, (day_there c.args.at c.args.circle.now c.requires.there).0)

pub returns : goal.returns
returns c =
    let len : c.day_len-len.result ≡ day_len (drop c.args.at.place c.args.circle.now) = c.day_len-len.ensures ∙ ap (λ (l : List ℕ). day_len l) c.split_at.ensures.back in
    days_behind c.args.at (record { place = c.args.at.place + c.day_len-len.result; far = c.far_after-far.result; most = c.left_after-most.result }) c.args.circle.now c.day_len-len.result
    c.requires.within c.requires.there len refl c.far_after-far.ensures c.left_after-most.ensures
