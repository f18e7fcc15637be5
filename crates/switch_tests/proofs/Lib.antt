mod Statistics
