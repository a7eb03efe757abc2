use Rattle.std.proofs.Common.{◌≡◌, ℕ, ◌-◌, ◌<◌, List, length, take, drop, sym, subst, arith, rules}
use Rattle.file_view.specs.Kept.{AreKept}
use Rattle.file_view.proofs.Deciding.{run_is, before_first, kept_part}
use Rattle.file_view.proofs.day_words.DayWords.run_at.Goals as goal

pub returns-clause-some : goal.returns-clause-some
returns-clause-some c =
    let kept : List ℕ = take (1440 - c.args.self.now.from) (drop c.args.self.now.from c.args.self.now.words) in
    subst (λ (n : ℕ). c.args.minute < n) (sym c.end_behind.ensures) (before_first kept c.count_at-count.result c.args.minute c.count_at-count.ensures.most c.requires c.count_at-count.ensures.behind)

pub returns-clause-run : goal.returns-clause-run
returns-clause-run c = λ words are.
    let kept : List ℕ = take (1440 - c.args.self.now.from) (drop c.args.self.now.from c.args.self.now.words) in
    let size : length c.args.self.now.words ≡ 1440 = first_of (omega arith, search rules) in
    let those : AreKept (take (1440 - c.args.self.now.from) (drop c.args.self.now.from c.args.self.now.words)) c.args.self.now.first words =
    subst (λ (l : List ℕ). AreKept l c.args.self.now.first words) (sym (kept_part c.args.self.now.words c.args.self.now.from size)) are in
    run_is kept c.args.self.now.first words those c.count_at-count.result c.args.minute c.count_at-count.ensures.most c.count_at-count.ensures.before
    (record { change = c.change_before.result; end = c.end_behind.result; place = c.count_at-count.result }) (c.change_before.ensures those.low) c.end_behind.ensures
