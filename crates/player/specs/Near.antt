-- The sites that stand before a site, going round. Assumes nothing.
use Rattle.std.specs.Prelude.{ℕ, ◌+◌, ◌-◌, cond, nat_le, nat_lt}
use Rattle.charge.specs.Groups.{Group}

-- how many sites before site i of a ring of L sites site j stands
abbrev pub back : ℕ → ℕ → ℕ → ℕ
back L i j = cond (nat_le j i) (i - j) (i + L - j)

-- f at the n sites up to site i, and zero at the others
abbrev pub up_to : (G : Group) → ℕ → ℕ → ℕ → (ℕ → G.Carrier) → ℕ → G.Carrier
up_to G L i n f j = cond (nat_lt (back L i j) n) (f j) G.zero
