-- The limits of document 01, in one place. Every definition takes them as an argument.
use Rattle.std.specs.Prelude.{ℕ}

pub record Limits : Type 0 where
  pub text_length : ℕ
  -- the digits of a number that is read, and the powers of ten that decide a printed number's width
  pub digits : ℕ
  pub powers : ℕ
  pub tasks : ℕ
  pub processors : ℕ
  pub edges : ℕ
  pub losses : ℕ
  pub run_time : ℕ
  pub delay : ℕ
  pub volume : ℕ
  pub tick : ℕ

abbrev pub document01 : Limits
document01 =
    record {
      text_length = 65_536;
      digits = 10;
      powers = 10;
      tasks = 255;
      processors = 16;
      edges = 1_024;
      losses = 7;
      run_time = 1_000_000;
      delay = 255;
      volume = 4_095;
      tick = 4_294_967_295;
    }
