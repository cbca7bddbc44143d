-- Which geometries have an image, and how long it is.
use Rattle.std.specs.Prelude.{ℕ, Bool, cond, ◌&&◌, Some, None, Option, nat_le}
use Rattle.image.specs.Format.{image_length}

abbrev pub ranged : ℕ → ℕ → ℕ → Bool
ranged b p l = nat_le 1 b && (nat_le b 4096 && (nat_le 1 p && (nat_le p 64 && (nat_le 1 l && nat_le l 100000))))

abbrev pub image_room : ℕ → ℕ → ℕ → Option ℕ
image_room b p l = cond (ranged b p l) (Some (image_length b p)) None
