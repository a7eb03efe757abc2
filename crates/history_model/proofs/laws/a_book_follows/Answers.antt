use Rattle.history_model.proofs.Following.{follows-kept, follows-broken, follows-found}
use Rattle.history_model.proofs.laws.a_book_follows.Goals as goal

pub returns : goal.returns
returns c = record {
  kept = λ past rest lost b i none next f. (follows-kept past rest lost b i none next f, follows-broken past rest lost b i none next f);
  found = λ past lost b known f. follows-found c.args.k b known past lost f;
}
