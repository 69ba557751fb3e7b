use Rattle.tag_model.proofs.PlainSums.{plain_bytes, plain_calls}
use Rattle.tag_model.proofs.plain_laws.words_are_what_is_counted.Goals as goal

pub returns-clause-bytes : goal.returns-clause-bytes
returns-clause-bytes c k parts t safe = plain_bytes k parts t safe

pub returns-clause-calls : goal.returns-clause-calls
returns-clause-calls c k parts t safe = plain_calls k parts t safe
