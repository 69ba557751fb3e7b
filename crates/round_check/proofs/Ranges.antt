-- One new key more of a split.
use Rattle.std.proofs.Common.{◌≡◌, ℕ, suc, ◌+◌, ◌-◌, ◌<◌, List, ◌∷◌, Option, Ok, Err, ap, ◌∙◌, arith}
use Rattle.std.specs.List.{range_with_len}
use Rattle.input_form.specs.declared.code.Code.{Code}
use Rattle.input_form.specs.Judging.{◌>>◌}
use Rattle.round_check.specs.declared.keys.Bound.{Bound}
use Rattle.round_check.specs.declared.keys.KeyState.{KeyState}
use Rattle.round_check.specs.declared.keys.Turn.{Turn}
use Rattle.round_check.specs.Keys.{own_key, free_key, own_keys, free_keys, bind, bind_all}

range_step : (k end : ℕ) → k < end → range_with_len k (end - k) ≡ k ∷ range_with_len (k + 1) (end - (k + 1))
range_step k end h =
    let n : end - k ≡ suc (end - (k + 1)) = omega arith in
    ap (range_with_len k) n

pub own_more : (keys : List KeyState) (turn : Turn) (k end : ℕ) → k < end → own_key keys turn k ≡ Ok tt → own_keys keys turn (range_with_len k (end - k)) ≡ own_keys keys turn (range_with_len (k + 1) (end - (k + 1)))
own_more keys turn k end h ok =
    ap (own_keys keys turn) (range_step k end h) ∙ ap (λ r. r >> own_keys keys turn (range_with_len (k + 1) (end - (k + 1)))) ok

pub own_stops : (keys : List KeyState) (turn : Turn) (k end : ℕ) (code : Code) → k < end → own_key keys turn k ≡ Err code → own_keys keys turn (range_with_len k (end - k)) ≡ Err code
own_stops keys turn k end code h err =
    ap (own_keys keys turn) (range_step k end h) ∙ ap (λ r. r >> own_keys keys turn (range_with_len (k + 1) (end - (k + 1)))) err

pub free_more : (keys : List KeyState) (k end : ℕ) → k < end → free_key keys k ≡ Ok tt → free_keys keys (range_with_len k (end - k)) ≡ free_keys keys (range_with_len (k + 1) (end - (k + 1)))
free_more keys k end h ok =
    ap (free_keys keys) (range_step k end h) ∙ ap (λ r. r >> free_keys keys (range_with_len (k + 1) (end - (k + 1)))) ok

pub free_stops : (keys : List KeyState) (k end : ℕ) (code : Code) → k < end → free_key keys k ≡ Err code → free_keys keys (range_with_len k (end - k)) ≡ Err code
free_stops keys k end code h err =
    ap (free_keys keys) (range_step k end h) ∙ ap (λ r. r >> free_keys keys (range_with_len (k + 1) (end - (k + 1)))) err

pub bind_more : (keys : List KeyState) (turn : Turn) (bound : Option Bound) (k end : ℕ) → k < end → bind_all keys turn bound (range_with_len k (end - k)) ≡ bind_all (bind keys turn bound k) turn bound (range_with_len (k + 1) (end - (k + 1)))
bind_more keys turn bound k end h = ap (bind_all keys turn bound) (range_step k end h)
