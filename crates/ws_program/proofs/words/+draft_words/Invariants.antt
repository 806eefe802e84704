use Rattle.std.proofs.Common.{length}
use Rattle.ws_program.proofs.words.+draft_words.Given as goal

abbrev pub decreases-draft_words : goal.decreases-draft_words
decreases-draft_words l = length l.words.now
