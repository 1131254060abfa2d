use Rattle.sql_reader.proofs.Keywords.{keyword-alike, token-alike}
use Rattle.sql_reader.proofs.KeywordTexts.{reading-alike, places-alike}
use Rattle.sql_reader.proofs.laws.keywords_read_alike.Goals as goal

pub returns : goal.returns
returns c = record { text = reading-alike; places = places-alike; keyword = keyword-alike; token = token-alike }
