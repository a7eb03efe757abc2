use Rattle.speed_store.proofs.Held.{newest-begins, newest-added, newest-elsewhere, newest-carries, carries-added, carries-moment}
use Rattle.speed_store.proofs.laws.what_the_ring_holds_of_a_run.Goals as goal

pub returns : goal.returns
returns c = record {
  begins = newest-begins;
  added = newest-added;
  elsewhere = newest-elsewhere;
  carries = newest-carries;
  carries_more = λ start x more h b y sixty added. carries-added start x more h b sixty y added;
  moment = λ start x more h b c sixty moment. carries-moment start x more h b sixty c moment;
}
