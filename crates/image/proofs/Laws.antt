-- The check's law.
use Rattle.std.proofs.Common.{◌≡◌, ℕ, List, sym, refl, ◌∙◌}
use Rattle.image.specs.Chip.{encoding}
use Rattle.image.specs.Format.{Checked, checked}
use Rattle.image.specs.Law.{CheckLaw}
use Rattle.image.proofs.Checks.{sound, complete}
use Rattle.image.proofs.Decodings.{decoded, decoded_in_range, encoding_decoded}
use Rattle.image.proofs.Encodings.{encoding_accepted}
use Rattle.image.proofs.Faults.{checked_faulty}
use Rattle.image.proofs.Words.{Bytes}

pub check_law : (bs : List ℕ) (x : Checked) → Bytes bs → x ≡ checked bs → CheckLaw bs x
unfolding decoded
check_law bs x byte e = record {
  takes_images = λ c ok same. e ∙ rw (← same) (complete (encoding c) _ _ _ (encoding_accepted c ok));
  takes_only_images = λ b p l h.
      let a = sound bs b p l (sym e ∙ h) in
      (decoded bs b p l, decoded_in_range bs b p l byte a, encoding_decoded bs b p l byte a, refl, refl, refl);
  places_faults = λ m s k h. checked_faulty bs byte m s k (sym e ∙ h);
}
