-- Fabric clusters over a capture (document 02, request 2): feature 2 is the uncore family. The instance's lookup tests 1 to 13; what is then
-- said is said of the instance's bytes: 17, then 14 (crate uncore_clusters).
--   clusters_for c i          the number of clusters of instance i
--   global_for c i die n      the global fabric number of local cluster n
--   place_for c i die n r     where register r stands: BAR number, start, 8 bytes, 1 piece
--   content_for c i die n r   its content
-- Assumes nothing.
use Rattle.std.specs.Prelude.{ℕ, ◌+◌, List, [], ◌∷◌}
use Rattle.words.specs.Answers.{Answer, gives, unless}
use Rattle.capture.specs.Capture.{Capture}
use Rattle.tpmi_discovery.specs.Table.{bir_of}
use Rattle.tpmi_features.specs.Instances.{start_for, instance_or}
use Rattle.uncore_clusters.specs.Clusters.{clusters_in, fabric_of, place_of, place_number, content_in}

unfoldable pub clusters_for : Capture → ℕ → Answer
clusters_for c i = instance_or c 2 i (λ s. gives (clusters_in s ∷ []))

unfoldable pub global_for : Capture → ℕ → ℕ → ℕ → Answer
global_for c i die n = instance_or c 2 i (λ s. fabric_of s die n)

-- a place in the instance's bytes as a place in the BAR capture
unfoldable pub place_from : Capture → ℕ → ℕ → ℕ → ℕ → List ℕ → Answer
place_from c i die n r s = unless (place_number s die n r) (gives (bir_of c ∷ (start_for c 2 i + place_of s n r) ∷ 8 ∷ 1 ∷ []))

unfoldable pub place_for : Capture → ℕ → ℕ → ℕ → ℕ → Answer
place_for c i die n r = instance_or c 2 i (place_from c i die n r)

unfoldable pub content_for : Capture → ℕ → ℕ → ℕ → ℕ → Answer
content_for c i die n r = instance_or c 2 i (λ s. content_in s die n r)
