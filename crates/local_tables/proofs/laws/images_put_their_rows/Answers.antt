use Rattle.local_tables.proofs.SideLaws.{puts_images}
use Rattle.local_tables.proofs.laws.images_put_their_rows.Goals as goal

pub returns : goal.returns
returns c = puts_images
