use Rattle.row_images.proofs.Equals.{differs_exactly}
use Rattle.row_images.proofs.compared.differs.Goals as goal

pub returns-in-Some-Some : goal.returns-in-Some-Some
returns-in-Some-Some c = rw (c.in-Some-Some.is-0, c.in-Some-Some.is-1) (differs_exactly c.in-Some-Some.after c.in-Some-Some.row.now c.ne.result c.ne.ensures)
