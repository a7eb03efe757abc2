use Rattle.std.proofs.Common.{◌≡◌, ◌∙◌, ◌++◌, ◌-◌, ℕ, take, drop, sym, ap}
use Rattle.json.specs.Json.{array}
use Rattle.json.specs.Tree.{items_tokens, json_tokens}
use Rattle.file_json.specs.Days.{day_len, days_shown, is_day}
use Rattle.file_json.proofs.Stringing.{two_of, left_after, one_day_more, no_day_left}
use Rattle.file_json.proofs.days.write_days_of.Goals as goal

pub days-preserved : goal.days-preserved
days-preserved c =
    let both = two_of c.days.left (is_day c.days.rest.now) (sym c.is_left.ensures ∙ c.days-test.true) in
    let len : c.day_len-len.result ≡ day_len c.days.rest.now = c.day_len-len.ensures in
    let left : c.left_after-left.result ≡ left_after c.days.left c.days.far (day_len c.days.rest.now) = c.left_after-left.ensures ∙ ap (λ (n : ℕ). left_after c.days.left c.days.far n) len in
    let far : c.far_after-far.result ≡ c.days.far - day_len c.days.rest.now = c.far_after-far.ensures ∙ ap (λ (n : ℕ). c.days.far - n) len in
    ap (λ (n : ℕ). c.write_day.new.writer ++ items_tokens (days_shown n c.far_after-far.result c.split_at.result.1.now)) left
    ∙ ap (λ (n : ℕ). c.write_day.new.writer ++ items_tokens (days_shown (left_after c.days.left c.days.far (day_len c.days.rest.now)) n c.split_at.result.1.now)) far
    ∙ one_day_more c.days.left c.days.far c.days.rest.now c.split_at.result.0.now c.split_at.result.1.now c.days.writer c.write_day.new.writer
    (c.args.writer.now ++ json_tokens (array (days_shown c.args.most c.args.far c.args.circle.now)))
    both.0 both.1 c.days.invariant
    (c.split_at.ensures.front ∙ ap (λ (n : ℕ). take n c.days.rest.now) len)
    (c.split_at.ensures.back ∙ ap (λ (n : ℕ). drop n c.days.rest.now) len)
    c.in_ok-write_day.ensures

pub returns : goal.returns
returns c =
    c.in_ok-end_array.ensures
    ∙ no_day_left c.days.left c.days.far c.days.rest.now c.days.writer (c.args.writer.now ++ json_tokens (array (days_shown c.args.most c.args.far c.args.circle.now))) (sym c.is_left.ensures ∙ c.days-test.false) c.days.invariant
