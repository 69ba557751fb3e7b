-- A line and its first words.
use Rattle.std.specs.Prelude.{◌≡◌, length}
use Rattle.text_form.specs.declared.cut.LineWords.TheInside.{Inside}
use Rattle.text_form.specs.Words.{words_of, word_at}

pub record AreCut (words : Inside) : Type 0 where
  pub count : words.count ≡ length (words_of words.line.now)
  pub first : words.first.now ≡ word_at words.line.now 0
  pub second : words.second.now ≡ word_at words.line.now 1
  pub third : words.third.now ≡ word_at words.line.now 2
  pub fourth : words.fourth.now ≡ word_at words.line.now 3
  pub fifth : words.fifth.now ≡ word_at words.line.now 4
  pub sixth : words.sixth.now ≡ word_at words.line.now 5
