-- A geometry that an image may state has room for its blank image in as many bytes as that image is long.
use Rattle.std.proofs.Common.{◌≡◌, ℕ, true, Some, Ok, Err, Result, sym, refl, ◌∙◌, arith}
use Rattle.std.proofs.lemmas.Bool.Decides.{nat_tests}
use Rattle.flash.specs.BlankImage.{room_checked, room_told}
use Rattle.flash.proofs.Blanks.{plan_goes}
use Rattle.image.specs.Format.{image_length, accepted}
use Rattle.image.specs.Shape.{ranged, image_room}
use Rattle.image.specs.declared.fault.ImageFault.{ImageFault}
use Rattle.image.specs.declared.shape.Geometry.{Geometry}

pub in_range : (b p l n : ℕ) → image_room b p l ≡ Some n → ranged b p l ≡ true
in_range b p l n e = grind (arith, nat_tests)

pub length_of : (b p l n : ℕ) → image_room b p l ≡ Some n → n ≡ image_length b p
length_of b p l n e = grind (arith, nat_tests)

pub room_fits : (g : Geometry) (n : ℕ) → ranged g.blocks g.pages g.life ≡ true → n ≡ image_length g.blocks g.pages →
    room_checked n g.blocks g.pages g.life ≡ accepted g.blocks g.pages g.life
room_fits g n h e = plan_goes n g (record {
  long = e;
  some_blocks = grind (arith, nat_tests);
  most_blocks = grind (arith, nat_tests);
  some_pages = grind (arith, nat_tests);
  most_pages = grind (arith, nat_tests);
  some_life = grind (arith, nat_tests);
  most_life = grind (arith, nat_tests);
})

-- an image that is as long as its geometry says can be written
pub written : (g : Geometry) (n m : ℕ) (r : Result (Unit {0}) ImageFault) → Some m ≡ image_room g.blocks g.pages g.life → n ≡ m →
    room_told g r ≡ room_checked n g.blocks g.pages g.life → r ≡ Ok tt
written g n m (Ok u) e l t = refl
written g n m (Err f) e l t =
    let h = in_range g.blocks g.pages g.life m (sym e) in
    let k = t ∙ room_fits g n h (l ∙ length_of g.blocks g.pages g.life m (sym e)) in
    absurd cc
